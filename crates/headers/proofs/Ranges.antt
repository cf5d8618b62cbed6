-- Header numbers are determined by their bytes. Assumes nothing.
use mathlib.Core.Path.{◌≡◌, refl, sym, ap, ap₂, ◌∙◌}
use mathlib.Core.List.{List, [], ◌∷◌, ◌++◌, map}
use mathlib.Core.Bool.{Bool, true, ◌&&◌}
use Prim.Native.Nat.{ℕ, suc, ◌+◌, ◌-◌, ◌*◌, ◌^◌, ◌<◌}
use native.Mathlib.Omega.{arith}
use borrow.Author.Tests.{ltb-true}
use lib.Dec.{ltb}
use lib.ListN.{length, length-append}
use lib.IntN.{ℤ}
use lib.Signed.{mag}
use Rattle.numbers.specs.Walk.{bytes_at}
use Rattle.numbers.specs.BigEndian.{number, bytes_of}
use Rattle.numbers.specs.TwosComplement.{signed_of, bits_of}
use Rattle.numbers.specs.Terms.{Bytes}
use Rattle.numbers.proofs.BoolLaws.{and_true}
use Rattle.numbers.proofs.WalkLaws.{split, cons_eq}
use Rattle.numbers.proofs.ByteLaws.{length_bytes, number_bytes_lem, number_at_lem}
use Rattle.numbers.proofs.SignLaws.{signed_bits, bits_lt, mag_signed}
use Rattle.reel.specs.Layout.{fields_from, field_number}
use Rattle.headers.specs.Header.{number_bytes}
use Rattle.headers.proofs.NumberLaws.{pow_bytes, total}

-- each number has a field of some bytes, and fits it
abbrev pub Fit : List ℕ → List ℤ → Type 0
Fit [] [] = Unit {0}
Fit [] (z ∷ zs) = ⊥
Fit (w ∷ ws) [] = ⊥
Fit (w ∷ ws) (z ∷ zs) = (0 < w) × (mag z < 2 ^ (8 * w - 1)) × Fit ws zs

pub fit_append : (ws us : List ℕ) (zs ys : List ℤ) → Fit ws zs → Fit us ys → Fit (ws ++ us) (zs ++ ys)
fit_append [] us [] ys p q = q
fit_append [] us (z ∷ zs) ys p q = absurd p
fit_append (w ∷ ws) us [] ys p q = absurd p
fit_append (w ∷ ws) us (z ∷ zs) ys p q = (p.0, p.1, fit_append ws us zs ys p.2 q)

-- there are as many fields as numbers that fit them
pub fit_length : (ws : List ℕ) (zs : List ℤ) → Fit ws zs → length ws ≡ length zs
fit_length [] [] h = refl
fit_length [] (z ∷ zs) h = absurd h
fit_length (w ∷ ws) [] h = absurd h
fit_length (w ∷ ws) (z ∷ zs) h = ap suc (fit_length ws zs h.2)

-- as many numbers as there are fields take the bytes of the fields
pub numbers_size : (ws : List ℕ) (zs : List ℤ) → length ws ≡ length zs → length (number_bytes ws zs) ≡ total ws
numbers_size [] zs e = refl
numbers_size (w ∷ ws) [] e = absurd (let z : suc (length ws) ≡ 0 = e in omega arith)
numbers_size (w ∷ ws) (z ∷ zs) e =
    length-append (bytes_of w (bits_of (8 * w) z)) (number_bytes ws zs)
    ∙ ap₂ (λ (x y : ℕ). x + y) (length_bytes w (bits_of (8 * w) z)) (numbers_size ws zs (omega arith))

pub size_numbers : (ws : List ℕ) (zs : List ℤ) → Fit ws zs → length (number_bytes ws zs) ≡ total ws
size_numbers ws zs p = numbers_size ws zs (fit_length ws zs p)

-- a number that fits, by its bytes
number_inj : (w : ℕ) (z y : ℤ) → 0 < w → mag z < 2 ^ (8 * w - 1) → mag y < 2 ^ (8 * w - 1) → bytes_of w (bits_of (8 * w) z) ≡ bytes_of w (bits_of (8 * w) y) → z ≡ y
number_inj w z y h p q e =
    let k : 0 < 8 * w = omega arith in
    let a : bits_of (8 * w) z < 256 ^ w = rw (pow_bytes w) (bits_lt (8 * w) z k p) in
    let b : bits_of (8 * w) y < 256 ^ w = rw (pow_bytes w) (bits_lt (8 * w) y k q) in
    let same : bits_of (8 * w) z ≡ bits_of (8 * w) y = sym (number_bytes_lem w _ a) ∙ ap number e ∙ number_bytes_lem w _ b in
    sym (signed_bits (8 * w) z k p) ∙ ap (signed_of (8 * w)) same ∙ signed_bits (8 * w) y k q

-- the numbers of a header, by its bytes
pub numbers_inj : (ws : List ℕ) (zs ys : List ℤ) → Fit ws zs → Fit ws ys → number_bytes ws zs ≡ number_bytes ws ys → zs ≡ ys
numbers_inj [] [] [] p q e = refl
numbers_inj [] [] (y ∷ ys) p q e = absurd q
numbers_inj [] (z ∷ zs) ys p q e = absurd p
numbers_inj (w ∷ ws) [] ys p q e = absurd p
numbers_inj (w ∷ ws) (z ∷ zs) [] p q e = absurd q
numbers_inj (w ∷ ws) (z ∷ zs) (y ∷ ys) p q e =
    let h = split (bytes_of w (bits_of (8 * w) z)) (bytes_of w (bits_of (8 * w) y)) (number_bytes ws zs) (number_bytes ws ys) (length_bytes w _ ∙ sym (length_bytes w _)) e in
    cons_eq (number_inj w z y p.0 p.1 q.1 h.0) (numbers_inj ws zs ys p.2 q.2 h.1)

-- ## The numbers of a reel's fields fit

pub number_fits : (s : List ℕ) → Bytes s → (at w : ℕ) → 0 < w → mag (signed_of (8 * w) (number (bytes_at s at w))) < 2 ^ (8 * w - 1)
number_fits s h at w p = mag_signed (8 * w) (number (bytes_at s at w)) (omega arith) (rw (pow_bytes w) at (number_at_lem s h at w))

-- every field has some bytes
abbrev pub Some : List ℕ → Type 0
Some [] = Unit {0}
Some (w ∷ ws) = (0 < w) × Some ws

pub fields_fit : (s : List ℕ) → Bytes s → (start b : ℕ) (ws : List ℕ) → Some ws → Fit ws (map (field_number s start) (fields_from b ws))
fields_fit s h start b [] p = tt
fields_fit s h start b (w ∷ ws) p = (p.0, number_fits s h (start + (b - 1)) w p.0, fields_fit s h start (b + w) ws p.1)

-- that every field has some bytes is computed
unfoldable pub all_some : List ℕ → Bool
all_some [] = true
all_some (w ∷ ws) = ltb 0 w && all_some ws

pub some_of : (ws : List ℕ) → all_some ws ≡ true → Some ws
unfolding all_some
some_of [] e = tt
some_of (w ∷ ws) e = let t = and_true (ltb 0 w) (all_some ws) e in (ltb-true 0 w t.0, some_of ws t.1)
