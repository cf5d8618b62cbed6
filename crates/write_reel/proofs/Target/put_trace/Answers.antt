-- `write_reel::put_trace` meets its contract. Assumes nothing.
use Rattle.write_reel.proofs.CopiedLaws.{size_bytes_header, size_words, size_trace}
use Rattle.write_reel.specs.Copied.{reel_header_copied, fields_words, fields_changed_at, trace_changed_at, reel_trace_copied}
use Rattle.headers.specs.Header.{header_size}
use Rattle.record.specs.Kind.{tag04}
use Rattle.record.specs.Form.{field_head, to_samples, share_in, behind_trace_in}
use Rattle.record.proofs.FormLaws.{share_some}
use Rattle.fields.specs.Fields.{fields_length}
use Rattle.formats.specs.Codes.{code_no}
use Rattle.reel.specs.Layout.{trace_header}
use Rattle.numbers.proofs.Filling.{start, lend, close}
use Rattle.numbers.proofs.WalkLaws.{bytes_between}
use Rattle.numbers.specs.Walk.{bytes_at}
use lib.ListN.{length}
use Prim.Native.Nat.{ℕ, ◌+◌, ◌-◌, ◌*◌, ◌<◌, ◌≤◌}
use mathlib.Core.Path.{◌≡◌, sym, ap, ap₂, subst, ◌∙◌}
use native.Mathlib.Omega.{arith}
use Rattle.write_reel.proofs.Target.put_trace.Given.{Over}
use Rattle.write_reel.proofs.Target.put_trace.Goals.{After-share_at-c, Start}
use Rattle.write_reel.proofs.Target.put_trace.Goals as goal

-- the trace ends within the record
room : (g : Over) (c : Start g) → let a = c.args in a.at + (183 + fields_length 6 (share_in tag04 a.«record».now a.self.samples (a.at + 183)) a.self.samples) ≤ length a.«record».now
unfolding behind_trace_in
room g c = c.requires.0

some : (g : Over) (c : After-share_at-c g) → 0 < c.share_at-c.result
some g c = let a = c.args in subst (λ (x : ℕ). 0 < x) (sym c.share_at-c.ensures) (share_some tag04 a.«record».now a.self.samples (a.at + 183))

pub put_fields-requires : goal.put_fields-requires
put_fields-requires g c =
    let b = (goal.at.put_fields-requires g c).Start in
    let a = b.args in
    (some g (goal.at.put_fields-requires g c).After-share_at-c, subst (λ (x : ℕ). a.at + 183 + fields_length 6 x a.self.samples ≤ length a.«record».now) (sym c.share_at-c.ensures) (omega (arith, room g b)), omega (arith, b.requires.1, a.self.size_is))

pub returns : goal.returns
unfolding trace_changed_at reel_trace_copied
returns g c =
    let h = c in
    let b = (goal.at.returns g c).Start in
    let a = b.args in
    let s = a.«record».now in
    let from = a.at + field_head in
    let own = share_in tag04 s a.self.samples (a.at + to_samples) in
    let x = reel_header_copied trace_header (bytes_at s from header_size) in
    let z = fields_words g.W.Way.near s (code_no a.self.code) own a.self.samples (a.at + to_samples) in
    let is = c.share_at-c.ensures in
    let r = c.put_fields.ensures in
    let header = h.put_header.ensures ∙ ap₂ reel_header_copied h.put_header-arg-2-1.given.2 (bytes_between s from (a.at + to_samples) header_size (omega (arith, room g b)) (omega arith)) in
    let wide = ap (λ (v : ℕ). a.self.samples * v) a.self.width_is in
    let size_is = b.requires.1 ∙ a.self.size_is in
    let w₀ = start _ a.out.now (size_is ∙ ap (λ (x : ℕ). 240 + x) wide ∙ sym (size_trace g.W.Way.near s (code_no a.self.code) a.self.samples a.at)) in
    let w₁ = lend x z trace_header w₀ (omega arith) (size_bytes_header trace_header s from header_size (omega arith)) header in
    let size : length z ≡ length a.out.now - trace_header = size_words g.W.Way.near s (code_no a.self.code) own (share_some tag04 s a.self.samples (a.at + to_samples)) a.self.samples (a.at + to_samples) ∙ omega (arith, size_is, wide) in
    (r.0 ∙ ap (λ (c : ℕ). fields_changed_at g.W.Way.near s (code_no a.self.code) c a.self.samples (a.at + to_samples)) is, close z (length a.out.now) w₁ (omega (arith, size_is)) size (r.1 ∙ ap (λ (c : ℕ). fields_words g.W.Way.near s (code_no a.self.code) c a.self.samples (a.at + to_samples)) is))

pub overflow_add-at : goal.overflow_add-at
overflow_add-at g c = omega (arith, room g (goal.at.overflow_add-at g c).Start)

pub overflow_add-at-2 : goal.overflow_add-at-2
overflow_add-at-2 g c = omega (arith, room g (goal.at.overflow_add-at-2 g c).Start)

pub slice_bounds-put_header-end : goal.slice_bounds-put_header-end
slice_bounds-put_header-end g c = omega (arith, room g (goal.at.slice_bounds-put_header-end g c).Start)

pub overflow_add-at-3 : goal.overflow_add-at-3
overflow_add-at-3 g c = omega (arith, room g (goal.at.overflow_add-at-3 g c).Start)
