-- `read_reel::put_fields` meets its contract. Assumes nothing.
use Rattle.read_reel.proofs.CopiedLaws.{size_fields}
use Rattle.record.proofs.HeaderLaws.{size_text}
use Rattle.read_reel.specs.Copied.{tag_bytes, fields_copied}
use Rattle.reel.specs.Meaning.{card_text_by}
use Rattle.numbers.proofs.Filling.{start, lend, close}
use Rattle.numbers.proofs.WalkLaws.{bytes_between, copied, size_bytes}
use Rattle.numbers.specs.Walk.{bytes_at}
use Rattle.std.proofs.Common.{rules}
use lib.ListN.{length}
use mathlib.Core.List.{◌++◌}
use mathlib.Core.Path.{refl, sym, ap, ◌∙◌}
use native.Mathlib.Omega.{arith}
use Rattle.read_reel.proofs.put_fields.Goals as goal

pub returns : goal.returns
unfolding fields_copied
returns c =
    let b = c in
    let s = b.args.reel.now in
    let z = bytes_at s 3200 60 in
    let text = card_text_by b.args.layout s in
    let w₀ = start _ b.args.out.now (b.requires.1 ∙ sym (size_fields b.args.layout s)) in
    let w₁ = lend (tag_bytes 1 3200) (text ++ (tag_bytes 2 60 ++ z)) 3 w₀ (omega arith) refl c.put_tag.ensures in
    let w₂ = lend text (tag_bytes 2 60 ++ z) 3203 w₁ (omega arith) (size_text b.args.layout s) c.put_text.ensures in
    let w₃ = lend (tag_bytes 2 60) z 3206 w₂ (omega arith) refl c.put_tag-2.ensures in
    close z 3266 w₃ (omega arith) (size_bytes s 3200 60) (copied _ _ c.copy.ensures (search rules) ∙ bytes_between s 3200 3260 60 (omega (arith, b.requires.0)) refl)

pub shape_of-out : goal.shape_of-out
shape_of-out c =
    let b = c in
    ap length (returns c) ∙ (size_fields b.args.layout b.args.reel.now ∙ sym b.requires.1)
