-- `write_reel::put_reel` meets its contract. Assumes nothing.
use Rattle.write_reel.proofs.CopiedLaws.{size_bytes_header, size_traces, size_parts, size_reel}
use Rattle.write_reel.specs.Reel.{binary_header}
use Rattle.write_reel.specs.Copied.{reel_header_copied, traces_copied, parts_copied, reel_copied}
use Rattle.record.specs.Form.{field_head, binary_size, binary_place, binary_start, traces_place}
use Rattle.reel.specs.Layout.{card_bytes, first_trace, stride}
use Rattle.formats.specs.Codes.{code_no, sample_bytes}
use Rattle.numbers.proofs.Filling.{start, lend, close}
use Rattle.numbers.proofs.WalkLaws.{bytes_between, copied, size_bytes}
use Rattle.numbers.specs.BigEndian.{bytes_of}
use Rattle.numbers.specs.Places.{byte_place}
use Rattle.numbers.specs.Walk.{bytes_at, overwritten}
use lib.ListN.{length}
use Prim.Native.Nat.{ℕ, ◌+◌, ◌-◌, ◌*◌}
use mathlib.Core.List.{List, ◌++◌}
use mathlib.Core.Path.{◌≡◌, refl, sym, ap, ap₂, ◌∙◌}
use native.Mathlib.Omega.{arith}
use Rattle.write_reel.proofs.Target.put_reel.Goals as goal

pub put_traces-count-requires : goal.put_traces-count-requires
put_traces-count-requires g c = let s = c in (s.requires.1, omega (arith, s.requires.2))

pub put_code-requires : goal.put_code-requires
put_code-requires g c =
    let two = c in
    let one = c in
    let s = c in
    omega (arith, s.requires.2, one.out-1.given.1, two.out-2-1.given.1, c.out-3-1.given.1)

pub returns : goal.returns
unfolding reel_copied parts_copied
returns g c =
    let traces = c in
    let header = c in
    let copy = c in
    let b = c in
    let a = b.args in
    let s = a.«record».now in
    let from = byte_place binary_start 3201 in
    let x = bytes_at s field_head card_bytes in
    let y = reel_header_copied binary_header (bytes_at s from binary_size) in
    let z = traces_copied g.W.Way.near s (code_no a.self.code) a.self.samples a.self.traces 0 in
    let wide : a.self.traces * a.self.size ≡ a.self.traces * stride a.self.samples (sample_bytes (code_no a.self.code)) = ap (λ (k : ℕ). a.self.traces * k) (a.self.size_is ∙ ap (stride a.self.samples) a.self.width_is) in
    let cards = copied _ _ copy.copy.ensures (omega (arith, copy.copy-arg-1.given.1, copy.copy-arg-2-1.given.2)) ∙ bytes_between s field_head binary_place card_bytes (omega (arith, b.requires.0)) refl in
    let binary = header.put_header.ensures ∙ ap₂ reel_header_copied header.put_header-arg-2-1.given.2 (bytes_between s from traces_place binary_size (omega (arith, b.requires.0)) refl) in
    let w₀ = start _ a.out.now (b.requires.2 ∙ ap (λ (k : ℕ). first_trace + k) wide ∙ sym (size_parts g.W.Way.near s (code_no a.self.code) a.self.samples a.self.traces)) in
    let w₁ = lend x (y ++ z) card_bytes w₀ (omega arith) (size_bytes s field_head card_bytes) cards in
    let w₂ = lend y z first_trace w₁ (omega arith) (size_bytes_header binary_header s from binary_size (omega arith)) binary in
    let size : length z ≡ length a.out.now - first_trace = size_traces g.W.Way.near s (code_no a.self.code) a.self.samples a.self.traces 0 ∙ sym wide ∙ omega (arith, b.requires.2) in
    let parts = close z (length a.out.now) w₂ (omega (arith, b.requires.2)) size traces.put_traces-count.ensures.1 in
    (traces.put_traces-count.ensures.0, c.put_code.ensures ∙ ap (λ (l : List ℕ). overwritten l (byte_place 0 3225) (bytes_of 2 (code_no a.self.code))) parts)

pub shape_of-out : goal.shape_of-out
shape_of-out g c =
    let b = c in
    let a = b.args in
    ap length (returns g c).1 ∙ (size_reel g.W.Way.near a.«record».now (code_no a.self.code) a.self.samples a.self.traces ∙ ap (λ (k : ℕ). first_trace + a.self.traces * k) (sym (a.self.size_is ∙ ap (stride a.self.samples) a.self.width_is)) ∙ sym b.requires.2)
