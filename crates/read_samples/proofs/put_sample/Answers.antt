-- `read_samples::put_sample` meets its contract. Assumes nothing.
use Rattle.std.proofs.Common.{rules, ◌≡◌, ◌+◌, ◌-◌, ◌++◌, length, drop, length-drop, arith, refl, ap, ◌∙◌}
use Rattle.numbers.specs.BigEndian.{bytes_of}
use Rattle.numbers.specs.TwosComplement.{bits_of}
use Rattle.numbers.proofs.Filling.{in_turn}
use Rattle.numbers.proofs.WalkLaws.{copied}
use Rattle.read_samples.proofs.put_sample.Goals as goal

pub returns : goal.returns
returns c =
    let out = c.args.out.now in
    let bits : c.of_signed.result ≡ bits_of 16 c.args.pair.e = search rules in
    let wide : c.of_signed-2.result ≡ bits_of 32 c.args.pair.m = search rules in
    let front : c.put.new.out ≡ bytes_of 2 (bits_of 16 c.args.pair.e) = copied (bytes_of 2 _) _ c.put.ensures (search rules) ∙ ap (bytes_of 2) (omega arith ∙ bits) in
    let behind : c.put-2.new.out ≡ bytes_of 4 (bits_of 32 c.args.pair.m) = copied (bytes_of 4 _) _ c.put-2.ensures (search rules) ∙ ap (bytes_of 4) (omega arith ∙ wide) in
    let size : length out ≡ 2 + (length (c.put.new.out ++ drop 2 out) - 2) = rw front (omega (arith, c.requires, length-drop 2 out)) in
    in_turn 2 (length (c.put.new.out ++ drop 2 out) - 2) out size refl front behind
