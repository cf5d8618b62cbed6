-- `value::Pair::of_bytes` meets its contract. Assumes nothing.
use Rattle.std.proofs.Common.{◌≡◌, length, take, drop, ap, ◌∙◌, rules, arith}
use Rattle.numbers.specs.BigEndian.{number}
use Rattle.numbers.specs.Walk.{bytes_at}
use Rattle.numbers.proofs.ByteLaws.{number_of_all}
use Rattle.numbers.proofs.WalkLaws.{bytes_between}
use Rattle.value.proofs.Pair.of_bytes.Goals as goal

pub returns : goal.returns
returns c =
    let b = c.args.b in
    let n : length b ≡ 6 = search rules in
    let e : c.of_bytes.result ≡ number (bytes_at b 0 2) = number_of_all (take 2 b) 2 c.of_bytes.ensures (search rules) ∙ ap number (bytes_between b 0 2 2 (omega (arith, n)) (omega arith)) in
    let m : c.of_bytes-2.result ≡ number (bytes_at b 2 4) = number_of_all (take 4 (drop 2 b)) 4 c.of_bytes-2.ensures (search rules) ∙ ap number (bytes_between b 2 6 4 (omega (arith, n)) (omega arith)) in
    c.of_bits.ensures ∙ grind (arith, e, m)
