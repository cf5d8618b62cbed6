-- Header numbers and their bytes: the numbers of a header's fields, written again, are the header's bytes. Assumes nothing.
use mathlib.Core.Path.{◌≡◌, refl, sym, ap, ap₂, ◌∙◌}
use mathlib.Core.List.{List, [], ◌∷◌, ◌++◌, map, append_assoc}
use Prim.Native.Nat.{ℕ, zero, suc, ◌+◌, ◌-◌, ◌*◌, ◌^◌, ◌≤◌, ◌<◌}
use native.Mathlib.Nat.{pow-suc, mul-suc}
use native.Mathlib.Omega.{arith}
use lib.Pow.{pow-add}
use lib.ListN.{length}
use lib.IntN.{ℤ}
use Rattle.numbers.specs.Terms.{Bytes}
use Rattle.numbers.specs.Walk.{bytes_at}
use Rattle.numbers.specs.BigEndian.{number, bytes_of}
use Rattle.numbers.specs.TwosComplement.{signed_of, bits_of}
use Rattle.numbers.proofs.ByteLaws.{number_at_lem, bytes_again, bytes_append}
use Rattle.numbers.proofs.SignLaws.{bits_signed}
use Rattle.reel.specs.Layout.{fields_from, field_number}
use Rattle.headers.specs.Header.{number_bytes}

-- ## One number

pub pow_bytes : (w : ℕ) → 256 ^ w ≡ 2 ^ (8 * w)
pow_bytes zero = refl
pow_bytes (suc w) = rw (pow-suc 256 w, pow_bytes w, mul-suc 8 w, pow-add 2 (8 * w) 8)

-- the number in w bytes, written again
pub number_again : (s : List ℕ) → Bytes s → (at w : ℕ) → bytes_of w (bits_of (8 * w) (signed_of (8 * w) (number (bytes_at s at w)))) ≡ bytes_at s at w
unfolding bytes_at
number_again s h at zero = refl
number_again s h at (suc w) =
    let n = number (bytes_at s at (suc w)) in
    let l : n < 2 ^ (8 * suc w) = rw (pow_bytes (suc w)) at (number_at_lem s h at (suc w)) in
    ap (bytes_of (suc w)) (bits_signed (8 * suc w) n (omega arith) l) ∙ bytes_again s h at (suc w)

-- ## A header

-- the bytes of fields of these widths
abbrev pub total : List ℕ → ℕ
total [] = 0
total (w ∷ ws) = w + total ws

-- the numbers of contiguous fields, written again, are the bytes they stand in
pub fields_again : (s : List ℕ) → Bytes s → (start b : ℕ) (ws : List ℕ) → 1 ≤ b
    → number_bytes ws (map (field_number s start) (fields_from b ws)) ≡ bytes_at s (start + (b - 1)) (total ws)
unfolding bytes_at
fields_again s h start b [] l = refl
fields_again s h start b (w ∷ ws) l =
    let at = start + (b - 1) in
    let next : start + (b + w - 1) ≡ at + w = omega arith in
    ap₂ (λ (x y : List ℕ). x ++ y) (number_again s h at w) (fields_again s h start (b + w) ws (omega arith) ∙ ap (λ (p : ℕ). bytes_at s p (total ws)) next)
    ∙ sym (bytes_append s at w (total ws))

-- numbers of two headers, one behind the other
pub numbers_append : (ws us : List ℕ) (zs ys : List ℤ) → length ws ≡ length zs → number_bytes (ws ++ us) (zs ++ ys) ≡ number_bytes ws zs ++ number_bytes us ys
numbers_append [] us [] ys e = refl
numbers_append [] us (z ∷ zs) ys e = absurd (let q : 0 ≡ suc (length zs) = e in omega arith)
numbers_append (w ∷ ws) us [] ys e = absurd (let q : suc (length ws) ≡ 0 = e in omega arith)
numbers_append (w ∷ ws) us (z ∷ zs) ys e =
    ap (λ (l : List ℕ). bytes_of w (bits_of (8 * w) z) ++ l) (numbers_append ws us zs ys (omega arith)) ∙ sym (append_assoc (bytes_of w (bits_of (8 * w) z)) (number_bytes ws zs) (number_bytes us ys))
