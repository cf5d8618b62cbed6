-- Fields and binary numbers of a record, written again: they are the bytes that stand there. Each byte is below 256; nothing else is
-- assumed.
use mathlib.Core.Path.{◌≡◌, refl, sym, ap, ap₂, ◌∙◌, subst}
use mathlib.Core.List.{List, ◌∷◌, ◌++◌, map}
use Prim.Native.Nat.{ℕ, zero, suc, ◌+◌, ◌*◌, ◌<◌}
use native.Mathlib.Nat.{zero-mul, suc-mul}
use native.Mathlib.Omega.{arith}
use lib.ListN.{length}
use lib.Seq.{take_all}
use lib.IntN.{pos}
use Rattle.numbers.specs.Walk.{walk, flat, bytes_at}
use Rattle.numbers.specs.BigEndian.{bytes_of}
use Rattle.numbers.specs.Terms.{Bytes}
use Rattle.numbers.proofs.WalkLaws.{cons_eq, size_bytes, bytes_part, at_zero, at_suc}
use Rattle.numbers.proofs.ByteLaws.{bytes_again, bytes_append}
use Rattle.reel.specs.Layout.{fields_from, binary_widths, binary_fields, field_number}
use Rattle.reel.specs.Meaning.{other_than}
use Rattle.record.specs.Record.{field, binary_bytes}
use Rattle.record.specs.Form.{held_code}
use Rattle.headers.proofs.NumberLaws.{fields_again, numbers_append}
use Rattle.record.proofs.HeaderLaws.{binary_front, binary_back}
use Rattle.demands.specs.ValidRecord.{Stands}

-- ## Lists joined

-- Two lists joined, each by another that is the same.
pub join : {a b c d : List ℕ} → a ≡ c → b ≡ d → a ++ b ≡ c ++ d
join p q = ap₂ (λ (x y : List ℕ). x ++ y) p q

-- k bytes and the j bytes behind them, by the place and the count that they are asked for with.
pub bytes_join : (s : List ℕ) (at k j next sum : ℕ) → at + k ≡ next → k + j ≡ sum → bytes_at s at k ++ bytes_at s next j ≡ bytes_at s at sum
bytes_join s at k j next sum p q =
    ap (λ (x : ℕ). bytes_at s at k ++ bytes_at s x j) (sym p) ∙ sym (bytes_append s at k j) ∙ ap (bytes_at s at) q

-- Where what stands at each offset of a walk is encoded in the w bytes that stand there, the encodings joined are all those bytes.
pub walk_again : {A : Type 0} (g : A → List ℕ) (f : ℕ → A) (s : List ℕ) (w k at : ℕ)
    → ((j : ℕ) → j < k → g (f (at + j * w)) ≡ bytes_at s (at + j * w) w) → flat (map g (walk f w k at)) ≡ bytes_at s at (k * w)
unfolding bytes_at
walk_again g f s w zero at h = ap (bytes_at s at) (sym (zero-mul w))
walk_again g f s w (suc k) at h =
    let same : ℕ → Type 0 = λ a. g (f a) ≡ bytes_at s a w in
    join (subst same (at_zero at w) (h 0 (omega arith))) (walk_again g f s w k (at + w) (λ j l. subst same (at_suc at w j) (h (suc j) (omega arith))))
    ∙ bytes_join s at w (k * w) (at + w) (suc k * w) refl (omega (arith, suc-mul k w))

-- ## Fields

-- A field that stands at a place, of which l is the content, is the bytes that stand there.
pub field_again : (s : List ℕ) → Bytes s → (tag size at : ℕ) (l : List ℕ) → Stands s tag size at → l ≡ bytes_at s (at + 3) size
    → field tag l ≡ bytes_at s at (3 + size)
unfolding field bytes_at
field_again s h tag size at l f e =
    let k : length l ≡ size = ap length e ∙ size_bytes s (at + 3) size in
    let c : bytes_of 2 (length l) ≡ bytes_at s (at + 1) 2 = ap (bytes_of 2) (k ∙ sym f.size_is) ∙ bytes_again s h (at + 1) 2 in
    let front : tag ∷ bytes_of 2 (length l) ≡ bytes_at s at 3 = cons_eq (sym f.tag_is) c in
    join front e ∙ sym (bytes_append s at 3 size)

-- ## The binary fields

-- The binary numbers that a record holds, written again with the format code 0 that stands among them.
pub binary_again : (s : List ℕ) → Bytes s → held_code s ≡ 0 → binary_bytes 0 (map (field_number s 6) (other_than 3225 binary_fields)) ≡ bytes_at s 3206 60
unfolding binary_bytes binary_fields binary_widths binary_front binary_back
binary_again s h c =
    let f = field_number s 6 in
    let code : bytes_of 2 0 ≡ bytes_at s 3230 2 = ap (bytes_of 2) (sym c) ∙ bytes_again s h 3230 2 in
    numbers_append binary_front (2 ∷ binary_back) (map f (fields_from 3201 binary_front)) (pos 0 ∷ map f (fields_from 3227 binary_back)) refl
    ∙ join (fields_again s h 6 3201 binary_front (omega arith)) (join code (fields_again s h 6 3227 binary_back (omega arith)) ∙ bytes_join s 3230 2 34 3232 36 refl refl)
    ∙ bytes_join s 3206 24 36 3230 60 refl refl

-- ## The record

-- The bytes of a record are all its bytes from the place 0 on.
pub all_bytes : (s : List ℕ) → bytes_at s 0 (length s) ≡ s
all_bytes s = sym (bytes_part s 0 (length s) (omega arith)) ∙ take_all (length s) s (omega arith)
