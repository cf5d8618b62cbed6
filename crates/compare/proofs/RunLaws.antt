-- Samples that stand side by side, and the runs of them in fields. Assumes nothing.
use mathlib.Core.Path.{◌≡◌, sym, ap, ap₂, ◌∙◌}
use mathlib.Core.List.{List}
use Prim.Native.Nat.{ℕ, ◌+◌, ◌-◌, ◌*◌, ◌/◌, ◌%◌, ◌≤◌, ◌<◌}
use native.Mathlib.Nat.{div-add-mod', mod-lt}
use native.Mathlib.Omega.{arith}
use lib.IntN.{ℤ}
use lib.ListN.{get_or}
use Rattle.numbers.specs.Walk.{walk, bytes_at}
use Rattle.numbers.proofs.WalkLaws.{walk_each, walk_same, size_walk}
use Rattle.fields.specs.Fields.{fields_length, pair_place}
use Rattle.fields.proofs.FieldsLaws.{walk_like, walk_parts, field_of, field_in_lem}
use Rattle.record.specs.Kind.{tag04}
use Rattle.record.specs.Held.{held_value}
use Rattle.exact.specs.Order.{or_else, lex_z}
use Rattle.std.specs.declared.cmp.Ordering.{Ordering}
use Rattle.std.specs.declared.cmp.Ordering.TheVariants.{Equal}
use Rattle.compare.specs.Parts.{run_of}
use Rattle.compare.proofs.LexLaws.{lex_self, lex_append}

-- samples with the same bytes are the same
pub run_same : (a b : List ℕ) (p q n : ℕ) → bytes_at a p (n * 6) ≡ bytes_at b q (n * 6) → Equal ≡ lex_z (walk (held_value a) 6 n p) (walk (held_value b) 6 n q)
unfolding bytes_at
run_same a b p q n e =
    let v : walk (held_value a) 6 n p ≡ walk (held_value b) 6 n q =
    walk_same (held_value a) (held_value b) 6 6 n p q (λ j l. ap tag04.value (walk_same (λ x. get_or a x 0) (λ x. get_or b x 0) 1 1 6 (p + j * 6) (q + j * 6) (λ i k. one j i l k))) in
    sym (ap (lex_z (walk (held_value a) 6 n p)) (sym v) ∙ lex_self (walk (held_value a) 6 n p))
  where
    one : (j i : ℕ) → j < n → i < 6 → get_or a (p + j * 6 + i * 1) 0 ≡ get_or b (q + j * 6 + i * 1) 0
    one j i l k =
        let x : p + j * 6 + i * 1 ≡ p + (j * 6 + i) * 1 = omega arith in
        let y : q + (j * 6 + i) * 1 ≡ q + j * 6 + i * 1 = omega arith in
        ap (λ (z : ℕ). get_or a z 0) x ∙ walk_each (λ z. get_or a z 0) (λ z. get_or b z 0) 1 1 (n * 6) (n * 6) p q e (j * 6 + i) (omega arith) ∙ ap (λ (z : ℕ). get_or b z 0) y

-- a run doesn't leave its field: the samples in it stand side by side
module _ (c : ℕ) (some : 0 < c) (at : ℕ) where
  run_place : (j i : ℕ) → j % c + i < c → pair_place 6 c at (j + i) ≡ pair_place 6 c at j + i * 6
  run_place j i h =
      let d = div-add-mod' j c in
      let e : j + i ≡ j / c * c + (j % c + i) = omega (arith, d) in
      let f : (j + i) / c ≡ j / c = ap (λ (x : ℕ). x / c) e ∙ field_of c some (j / c) (j % c + i) h in
      let g : (j + i) * 6 ≡ j * 6 + i * 6 = omega arith in
      omega (arith, f, g)

  run_walk : (f : ℕ → ℤ) (j m : ℕ) → j % c + m ≤ c → walk (λ x. f (pair_place 6 c at x)) 1 m j ≡ walk f 6 m (pair_place 6 c at j)
  run_walk f j m h =
      walk_like (λ x. f (pair_place 6 c at x)) f 1 6 m j (pair_place 6 c at j) (λ i l. ap f (let e : j + i * 1 ≡ j + i = omega arith in ap (pair_place 6 c at) e ∙ run_place j i (omega arith)))

  -- and ends before its fields do
  pub run_room : (n j m : ℕ) → j + m ≤ n → j < n → pair_place 6 c at j + m * 6 ≤ at + fields_length 6 c n
  run_room n j m h l =
      let q : j / c * c < n = omega (arith, div-add-mod' j c) in
      let k = field_in_lem c some n (j / c) q in
      omega (arith, k)

-- LAW. Samples in fields of c and in fields of d: a run, then those behind it.
module _ (a b : List ℕ) (c d : ℕ) (sc : 0 < c) (sd : 0 < d) (p q n : ℕ) where
  abbrev rest : ℕ → Ordering
  rest j = lex_z (walk (λ x. held_value a (pair_place 6 c p x)) 1 (n - j) j) (walk (λ x. held_value b (pair_place 6 d q x)) 1 (n - j) j)

  abbrev run : ℕ → ℕ → Ordering
  run m j = lex_z (walk (held_value a) 6 m (pair_place 6 c p j)) (walk (held_value b) 6 m (pair_place 6 d q j))

  pub run_some : (j : ℕ) → j < n → 0 < run_of c d n j
  run_some j l = omega (arith, mod-lt j sc, mod-lt j sd)

  pub run_next : (j : ℕ) → j < n → rest j ≡ or_else (run (run_of c d n j) j) (rest (j + run_of c d n j))
  run_next j l =
      let m = run_of c d n j in
      let f : ℕ → ℤ = λ x. held_value a (pair_place 6 c p x) in
      let g : ℕ → ℤ = λ x. held_value b (pair_place 6 d q x) in
      let k = n - (j + m) in
      let e : n - j ≡ m + k = omega arith in
      let z : j + m * 1 ≡ j + m = omega arith in
      ap (λ (x : ℕ). lex_z (walk f 1 x j) (walk g 1 x j)) e
      ∙ ap₂ lex_z (walk_parts f 1 m k j) (walk_parts g 1 m k j)
      ∙ lex_append (walk f 1 m j) (walk g 1 m j) (walk f 1 k (j + m * 1)) (walk g 1 k (j + m * 1)) (size_walk f 1 m j ∙ sym (size_walk g 1 m j))
      ∙ ap₂ or_else (ap₂ lex_z (run_walk c sc p (held_value a) j m (omega (arith, mod-lt j sc))) (run_walk d sd q (held_value b) j m (omega (arith, mod-lt j sd)))) (ap (λ (x : ℕ). lex_z (walk f 1 k x) (walk g 1 k x)) z)
