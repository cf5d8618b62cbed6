-- `read_reel::put_field` meets its contract. Assumes nothing.
use Rattle.std.proofs.Common.{ℕ, ◌+◌, ◌*◌, ◌≤◌, length, refl, sym, ap, ◌∙◌, arith}
use Rattle.formats.specs.Codes.{sample_bytes}
use Rattle.read_samples.specs.Samples.{sample_pairs}
use Rattle.read_samples.proofs.SampleLaws.{size_samples, samples_read_lem}
use Rattle.read_reel.specs.Copied.{tag_bytes, field_copied}
use Rattle.read_reel.proofs.CopiedLaws.{size_field}
use Rattle.numbers.proofs.Filling.{start, lend, close}
use Rattle.read_reel.proofs.put_field.Goals as goal

pub returns : goal.returns
unfolding field_copied
returns c =
    let a = c.args in
    let o = a.own in
    let s = a.reel.now in
    let z = sample_pairs s o.code a.count a.at in
    let room : a.at + a.count * sample_bytes o.code ≤ length s = omega (arith, c.requires.1, ap (λ (x : ℕ). a.count * x) o.width_is) in
    let w₀ = start _ a.out.now (c.requires.2 ∙ sym (size_field s o.code a.count a.at)) in
    let w₁ = lend (tag_bytes 4 (a.count * 6)) z 3 w₀ (omega arith) refl c.put_tag.ensures in
    close z _ w₁ w₁.within (size_samples s o.code a.count a.at ∙ omega (arith, w₁.size, w₀.size, c.requires.2))
    (c.read_samples.ensures ∙ samples_read_lem s o.code a.count a.at _ o.coded room (omega arith))
