-- `headers::read_header` meets its contract. Assumes nothing.
use Rattle.std.proofs.Common.{rules, ℕ, ◌≡◌, ◌∙◌, sym, ap, length, arith}
use borrow.Author.Tests.{ne_eqb}
use Rattle.numbers.proofs.BoolLaws.{and_false}
use Rattle.numbers.proofs.ByteLaws.{all_bytes}
use Rattle.numbers.proofs.WalkLaws.{copied}
use Rattle.headers.specs.Header.{header_size, is_header, header_read}
use Rattle.headers.specs.Parts.{group_lowered, field_filled}
use Rattle.headers.proofs.CopiedLaws.{header_is, header_read_lem}
use Rattle.headers.proofs.Lowered.{header_stored}
use Rattle.headers.proofs.read_header.Goals as goal

pub returns-in_default : goal.returns-in_default
unfolding header_read
returns-in_default c = rw c.in_default.ensures

pub returns-in_default-as_mut_array : goal.returns-in_default-as_mut_array
unfolding header_read
returns-in_default-as_mut_array c = rw (ne_eqb (length c.args.out.now) header_size c.in_default-as_mut_array.ensures.cases, and_false (is_header c.args.reel.now c.args.at.0))

pub returns : goal.returns
returns c =
    let a = c.args in
    let h = c.in-Some.header.now in
    let whole = c.in-Some.ensures in
    let held : c.copy.new.out ≡ h = copied h _ c.copy.ensures (search rules) in
    let lowered : c.lower-2.new.out ≡ group_lowered 4 72 70 h (group_lowered 7 40 68 h h) =
    c.lower-2.ensures ∙ ap (group_lowered 4 72 70 h) (c.lower.ensures ∙ ap (group_lowered 7 40 68 h) held) in
    let filled : c.fill_field-2.new.out ≡ field_filled h a.i 0 117 (field_filled h a.n 0 115 (group_lowered 4 72 70 h (group_lowered 7 40 68 h h))) =
    c.fill_field-2.ensures ∙ ap (field_filled h a.i 0 117) (c.fill_field.ensures ∙ ap (λ (n : ℕ). field_filled h n 0 115 c.lower-2.new.out) {y = a.n} (grind arith) ∙ ap (field_filled h a.n 0 115) lowered) in
    let bytes = all_bytes a.reel.now (λ j. omega (arith, c.type_inv.reel j)) in
    filled ∙ header_stored a.reel.now h a.at.0 whole.1 a.n a.i ∙ sym (header_is a.reel.now bytes a.n a.i a.at.0)
    ∙ sym (header_read_lem a.reel.now a.n a.i a.at.0 a.out.now whole.0 c.in-Some-as_mut_array.ensures.cases.long)
