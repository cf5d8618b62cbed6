-- `slices::number_at` meets its contract. Assumes nothing.
use Rattle.std.proofs.Common.{rules, sym, ap, ◌∙◌, ◌≡◌, arith, ◌+◌, ◌*◌, ◌-◌, ◌≤◌, ℕ, List, take, take_at, get_or, ◌<◌, slice_index}
use borrow.Author.Tests.{tests, leb-true}
use Rattle.numbers.specs.Walk.{bytes_at}
use Rattle.numbers.specs.BigEndian.{number}
use Rattle.numbers.proofs.ByteLaws.{number_of_all, bytes_append}
use Rattle.numbers.proofs.FromFn.{made_at, walk_is}
use Rattle.numbers.proofs.WalkLaws.{bytes_between, size_bytes}
use Rattle.slices.proofs.number_at.Goals as goal

pub returns-then-are_within : goal.returns-then-are_within
returns-then-are_within g c =
    let k = g.N.Number.SIZE in
    let h = leb-true _ _ (sym c.are_within.ensures ∙ c.if-are_within.true) in
    number_of_all _ k c.of_bytes.ensures (search rules) ∙ ap number (bytes_between c.args.s.now c.args.at.0 _ k (omega (arith, h)) (omega arith))

-- the front of eight bytes from a place on
front : (s : List ℕ) (p k n : ℕ) → n ≡ k → k ≤ 8 → take n (bytes_at s p 8) ≡ bytes_at s p k
front s p k n i h =
    let e : 8 ≡ k + (8 - k) = omega arith in
    rw (i, e, bytes_append s p k (8 - k)) (take_at (bytes_at s p k) (bytes_at s (p + k) (8 - k)) k (size_bytes s p k))

pub returns : goal.returns
unfolding bytes_at
returns g c =
    let s = c.args.s.now in
    let p = c.args.at.0 in
    let k = g.N.Number.SIZE in
    let each : (j : ℕ) → j < 8 → get_or c.from_fn-bytes.result j 0 ≡ slice_index s (p + j * 1) =
    λ j l.
    let z : 0 + j ≡ j = omega arith in
    let e : j ≡ j * 1 = omega arith in
    rw z at (made_at _ (λ (x : ℕ). slice_index s (p + x)) _ (λ x y q k. search (rules, tests)) c.from_fn-bytes.result 0 8 c.from_fn-bytes.ensures.items.each j l 0)
    ∙ ap (λ (x : ℕ). slice_index s (p + x)) e in
    let all : c.from_fn-bytes.result ≡ bytes_at s p 8 = walk_is (slice_index s) 1 c.from_fn-bytes.result 8 p 0 c.from_fn-bytes.ensures.items.long each in
    number_of_all _ k c.of_bytes-2.ensures (search rules) ∙ ap number (ap (take _) all ∙ front s p k _ (omega arith) (omega (arith, g.met.N.Number.short)))
