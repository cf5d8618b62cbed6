-- The nearest multiple of a number: which of the two that enclose it, that no multiple is nearer, and the same by a shift. Assumes nothing.
use mathlib.Core.Path.{◌≡◌, sym, ap, ◌∙◌, subst}
use mathlib.Core.Logic.{◌⊎◌, inl, inr, ⊎_elim}
use Prim.Native.Nat.{ℕ, suc, ◌+◌, ◌-◌, ◌*◌, ◌/◌, ◌%◌, ◌^◌, ◌≤◌, ◌<◌}
use native.Mathlib.Nat.{zero-mul, suc-mul, pow-suc, add-mul, mul_assoc, mul_comm, mul-mod_left, mul-div_cancel, mul-div-mul_right, mul-add-div_right, mul-lt-mul_of_pos_right, mul-le-mul_right, div-add-mod', div-eq_of_lt, mod-lt, mod-eq_of_lt, sub-add_cancel}
use native.Mathlib.Omega.{arith}
use borrow.Author.Tests.{lt-ltb, le-ltb}
use lib.Dec.{ltb}
use lib.Pow.{pow-add, pow_pos}
use Rattle.numbers.specs.Walk.{pick}
use Rattle.numbers.proofs.SignLaws.{below_or}
use Rattle.formats.specs.Nearest.{nearest_multiple}

-- the distance of two numbers
abbrev pub dist : ℕ → ℕ → ℕ
dist a b = (a - b) + (b - a)

-- ## The two multiples that enclose a number

pub enclosed : (u a : ℕ) → 0 < u → (a / u * u ≤ a) × (a < suc (a / u) * u)
enclosed u a h =
    let e = div-add-mod' a u in
    let m : a % u < u = mod-lt a h in
    (omega (arith, e), omega (arith, e, m, suc-mul (a / u) u))

-- the upper one is taken where the remainder is more than half of u, and else the lower one
pub multiple_up : (u a : ℕ) → u < 2 * (a % u) → nearest_multiple u a ≡ suc (a / u) * u
multiple_up u a h = up _ (omega (arith, h))
  where
    up : (t : ℕ) → u < t → (a / u + pick (ltb u t) 1 0) * u ≡ suc (a / u) * u
    up t l = rw (lt-ltb u t l) (ap (λ (y : ℕ). y * u) (let e : a / u + 1 ≡ suc (a / u) = omega arith in e))

pub multiple_down : (u a : ℕ) → 2 * (a % u) ≤ u → nearest_multiple u a ≡ a / u * u
multiple_down u a h = down _ (omega (arith, h))
  where
    down : (t : ℕ) → t ≤ u → (a / u + pick (ltb u t) 1 0) * u ≡ a / u * u
    down t l = rw (le-ltb u t l) (ap (λ (y : ℕ). y * u) (let e : a / u + 0 ≡ a / u = omega arith in e))

-- what is proved of both is proved of the nearest
pub by_side : (P : ℕ → Type 0) (u a : ℕ) → (u < 2 * (a % u) → P (suc (a / u) * u)) → (2 * (a % u) ≤ u → P (a / u * u)) → P (nearest_multiple u a)
by_side P u a up down =
    ⊎_elim (λ (h : u < 2 * (a % u)). subst P (sym (multiple_up u a h)) (up h)) (λ (h : 2 * (a % u) ≤ u). subst P (sym (multiple_down u a h)) (down h)) (below_or u (2 * (a % u)))

pub multiple_above : (u a : ℕ) → a / u * u ≤ nearest_multiple u a
multiple_above u a = by_side (λ y. a / u * u ≤ y) u a (λ h. omega (arith, suc-mul (a / u) u)) (λ h. omega arith)

pub multiple_below : (u a : ℕ) → nearest_multiple u a ≤ suc (a / u) * u
multiple_below u a = by_side (λ y. y ≤ suc (a / u) * u) u a (λ h. omega arith) (λ h. omega (arith, suc-mul (a / u) u))

-- LAW. The nearest multiple is at most half of u away.
pub multiple_close : (u a : ℕ) → 0 < u → (2 * nearest_multiple u a ≤ 2 * a + u) × (2 * a ≤ 2 * nearest_multiple u a + u)
multiple_close u a p =
    let e = div-add-mod' a u in
    let m : a % u < u = mod-lt a p in
    by_side (λ y. (2 * y ≤ 2 * a + u) × (2 * a ≤ 2 * y + u)) u a
    (λ h. let s = suc-mul (a / u) u in (omega (arith, e, m, s), omega (arith, e, m, s)))
    (λ h. (omega (arith, e, m), omega (arith, e, m)))

-- LAW. A number outside the two that enclose a is no nearer, and of two equally near the nearest multiple is the lower one.
pub multiple_nearest : (u a b : ℕ) → 0 < u → (b ≤ a / u * u) ⊎ (suc (a / u) * u ≤ b) → let n = nearest_multiple u a in
    (dist a n ≤ dist a b) × ((dist a n ≡ dist a b) → (n ≤ b) ⊎ (b ≡ n))
multiple_nearest u a b p o =
    by_side (λ n. (dist a n ≤ dist a b) × ((dist a n ≡ dist a b) → (n ≤ b) ⊎ (b ≡ n))) u a (λ h. up h o) (λ h. down h o)
  where
    q : ℕ
    q = a / u * u

    e : q + a % u ≡ a
    e = div-add-mod' a u

    low : a % u < u
    low = mod-lt a p

    next : suc (a / u) * u ≡ u + q
    next = omega (arith, suc-mul (a / u) u)

    up : u < 2 * (a % u) → (b ≤ q) ⊎ (suc (a / u) * u ≤ b) → (dist a (suc (a / u) * u) ≤ dist a b) × ((dist a (suc (a / u) * u) ≡ dist a b) → (suc (a / u) * u ≤ b) ⊎ (b ≡ suc (a / u) * u))
    up h (inl k) = (omega (arith, e, low, next), λ z. absurd (none z))
      where
        none : dist a (suc (a / u) * u) ≡ dist a b → ⊥
        none z = omega (arith, e, low, next)
    up h (inr k) = (omega (arith, e, low, next), λ z. inl k)

    down : 2 * (a % u) ≤ u → (b ≤ q) ⊎ (suc (a / u) * u ≤ b) → (dist a q ≤ dist a b) × ((dist a q ≡ dist a b) → (q ≤ b) ⊎ (b ≡ q))
    down h (inl k) = (omega (arith, e, low), λ z. inr (omega (arith, e, low)))
    down h (inr k) = (omega (arith, e, low, next), λ z. inl (omega (arith, next)))

-- ## By a shift

-- a multiple is its own nearest
pub multiple_own : (u f : ℕ) → 0 < u → nearest_multiple u (f * u) ≡ f * u
multiple_own u f p =
    multiple_down u (f * u) (let z : 2 * (f * u % u) ≤ u = rw (mul-mod_left f u) (omega arith) in z) ∙ ap (λ (y : ℕ). y * u) (mul-div_cancel f p)

-- it goes by the multiple, whatever both are multiplied by
pub multiple_scaled : (u a z : ℕ) → 0 < z → nearest_multiple (u * z) (a * z) ≡ nearest_multiple u a * z
multiple_scaled u a z p =
    ⊎_elim
    (λ (h : u < 2 * (a % u)).
    multiple_up (u * z) (a * z) (rw rest (rw (← (mul_assoc 2 (a % u) z)) (mul-lt-mul_of_pos_right h p)))
    ∙ ap (λ (y : ℕ). suc y * (u * z)) same ∙ sym (mul_assoc (suc (a / u)) u z) ∙ ap (λ (y : ℕ). y * z) (sym (multiple_up u a h)))
    (λ (h : 2 * (a % u) ≤ u).
    multiple_down (u * z) (a * z) (rw rest (rw (← (mul_assoc 2 (a % u) z)) (mul-le-mul_right z h)))
    ∙ ap (λ (y : ℕ). y * (u * z)) same ∙ sym (mul_assoc (a / u) u z) ∙ ap (λ (y : ℕ). y * z) (sym (multiple_down u a h)))
    (below_or u (2 * (a % u)))
  where
    same : a * z / (u * z) ≡ a / u
    same = mul-div-mul_right a u p

    rest : a * z % (u * z) ≡ a % u * z
    rest =
        let f : a * z ≡ a / u * u * z + a % u * z = ap (λ (y : ℕ). y * z) (sym (div-add-mod' a u)) ∙ add-mul (a / u * u) (a % u) z in
        let g : a * z / (u * z) * (u * z) + a * z % (u * z) ≡ a * z = div-add-mod' (a * z) (u * z) in
        let h : a * z / (u * z) * (u * z) ≡ a / u * u * z = ap (λ (y : ℕ). y * (u * z)) same ∙ sym (mul_assoc (a / u) u z) in
        omega (arith, f, g, h)

-- the nearest whole number of u's, by adding just under half of u first
pub rounded_is : (u o h : ℕ) → 0 < u → (2 * h < u) → (u ≤ 2 * h + 2) → (o + h) / u * u ≡ nearest_multiple u o
rounded_is u o h p below above =
    ap (λ (y : ℕ). (y + h) / u * u) (sym (div-add-mod' o u)) ∙ ap (λ (y : ℕ). y / u * u) (let e : o / u * u + o % u + h ≡ o / u * u + (o % u + h) = omega arith in e)
    ∙ ap (λ (y : ℕ). y * u) (mul-add-div_right p (o / u) (o % u + h)) ∙ go (below_or u (2 * (o % u)))
  where
    low : o % u < u
    low = mod-lt o p

    go : (u < 2 * (o % u)) ⊎ (2 * (o % u) ≤ u) → (o / u + (o % u + h) / u) * u ≡ nearest_multiple u o
    go (inl k) =
        let one : (o % u + h) / u ≡ 1 = once (o % u + h) (omega (arith, above)) (omega (arith, below, low)) in
        ap (λ (y : ℕ). (o / u + y) * u) one ∙ ap (λ (y : ℕ). y * u) (let e : o / u + 1 ≡ suc (o / u) = omega arith in e) ∙ sym (multiple_up u o k)
      where
        once : (x : ℕ) → u ≤ x → x < u + u → x / u ≡ 1
        once x a b =
            let e : x ≡ 1 * u + (x - u) = omega arith in
            ap (λ (y : ℕ). y / u) e ∙ mul-add-div_right p 1 (x - u) ∙ ap (λ (y : ℕ). 1 + y) (div-eq_of_lt (let z : x - u < u = omega arith in z))
    go (inr k) =
        let none : (o % u + h) / u ≡ 0 = div-eq_of_lt (let z : o % u + h < u = omega (arith, below) in z) in
        ap (λ (y : ℕ). (o / u + y) * u) none ∙ ap (λ (y : ℕ). y * u) (let e : o / u + 0 ≡ o / u = omega arith in e) ∙ sym (multiple_down u o k)

-- a number below half of u becomes 0
pub rounded_none : (u o : ℕ) → 2 * o ≤ u → o < u → nearest_multiple u o ≡ 0
rounded_none u o h l =
    multiple_down u o (let z : 2 * (o % u) ≤ u = rw (mod-eq_of_lt l) h in z) ∙ ap (λ (y : ℕ). y * u) (div-eq_of_lt l) ∙ zero-mul u

-- a half by its power
pub half_of : (s : ℕ) → 0 < s → 2 ^ s ≡ 2 * 2 ^ (s - 1)
half_of s h = let e : s ≡ suc (s - 1) = omega arith in ap (λ (y : ℕ). 2 ^ y) e ∙ pow-suc 2 (s - 1) ∙ mul_comm (2 ^ (s - 1)) 2

-- o × 2 ^ k by the nearest multiple of a higher power 2 ^ u, where f is o's of 2 ^ (u - k)
pub multiple_lifted : (o k u f : ℕ) → k ≤ u → f * 2 ^ (u - k) ≡ nearest_multiple (2 ^ (u - k)) o → f * 2 ^ u ≡ nearest_multiple (2 ^ u) (o * 2 ^ k)
multiple_lifted o k u f h is =
    let s = u - k in
    let p : 2 ^ u ≡ 2 ^ s * 2 ^ k = ap (λ (y : ℕ). 2 ^ y) (sym (sub-add_cancel h)) ∙ pow-add 2 s k in
    ap (λ (y : ℕ). f * y) p ∙ sym (mul_assoc f (2 ^ s) (2 ^ k)) ∙ ap (λ (y : ℕ). y * 2 ^ k) is
    ∙ sym (multiple_scaled (2 ^ s) o (2 ^ k) (pow_pos k)) ∙ ap (λ (y : ℕ). nearest_multiple y (o * 2 ^ k)) (sym p)
