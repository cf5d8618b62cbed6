-- Samples in several fields, a field at a time; places and walks over indices. Assumes nothing.
use mathlib.Core.Path.{◌≡◌, refl, sym, ap, ap₂, ◌∙◌, subst}
use mathlib.Core.Logic.{⊎_elim}
use mathlib.Core.List.{List, [], ◌∷◌, ◌++◌, append-nil, append_assoc}
use Prim.Native.Nat.{ℕ, zero, suc, ◌+◌, ◌-◌, ◌*◌, ◌/◌, ◌≤◌, ◌<◌, min}
use native.Mathlib.Nat.{div-eq_of_lt, add-div_left, zero-mul, add-zero, suc-mul, mul_assoc, mul_comm, add-mul, not-suc-le-zero}
use native.Mathlib.Omega.{arith}
use Rattle.std.proofs.Common.{add-one}
use lib.ListN.{length, take, drop, length-drop, drop_of_length-le}
use lib.Seq.{take_at, drop_at, take_all, drop-drop}
use Rattle.numbers.specs.Walk.{walk, flat, sum}
use Rattle.numbers.proofs.SignLaws.{below_or}
use Rattle.numbers.proofs.WalkLaws.{cons_eq, walk_same}
use Rattle.fields.specs.Fields.{each, fields_in, field_count, field_place, pair_place, fields_length, in_fields, shares}

-- ## Walks

-- Walks that give the same at each step are the same.
pub walk_like : {A : Type 0} (f g : ℕ → A) (w u k s t : ℕ) → ((j : ℕ) → j < k → f (s + j * w) ≡ g (t + j * u)) → walk f w k s ≡ walk g u k t
walk_like = walk_same

-- A walk in two parts.
pub walk_parts : {A : Type 0} (f : ℕ → A) (w a k s : ℕ) → walk f w (a + k) s ≡ walk f w a s ++ walk f w k (s + a * w)
walk_parts f w zero k s =
    let e : s + 0 * w ≡ s = rw zero-mul (add-zero s) in
    let d : 0 + k ≡ k = omega arith in
    rw (e, d)
walk_parts f w (suc a) k s =
    let e : s + suc a * w ≡ s + w + a * w = rw suc-mul (omega arith) in
    let d : suc a + k ≡ suc (a + k) = omega arith in
    rw (d, e) (cons_eq refl (walk_parts f w a k (s + w)))

-- The number of step j of a walk over numbers.
pub step_is : (j : ℕ) → 0 + j * 1 ≡ j
step_is j = omega arith

-- One step, and then those of the numbers behind it.
pub each_more : {A : Type 0} (f g : ℕ → A) (k : ℕ) → ((j : ℕ) → j < k → f (suc j) ≡ g j) → each f (suc k) ≡ f 0 ∷ each g k
each_more f g k h =
    cons_eq refl (walk_like f g 1 1 k (0 + 1) 0 (λ j l. let a : 0 + 1 + j * 1 ≡ suc j = omega arith in ap f a ∙ h j l ∙ ap g (sym (step_is j))))

-- Numbers that give the same.
pub each_like : {A : Type 0} (f g : ℕ → A) (k : ℕ) → ((j : ℕ) → j < k → f j ≡ g j) → each f k ≡ each g k
each_like f g k h = walk_like f g 1 1 k 0 0 (λ j l. ap f (step_is j) ∙ h j l ∙ ap g (sym (step_is j)))

-- The first c elements of two lists, one behind the other, and the others, where the first list has c, or fewer and none follow.
pub take_parts : {A : Type 0} (c n : ℕ) (x y : List A) → length x ≡ min c n → (n ≤ c → y ≡ []) → (take c (x ++ y) ≡ x) × (drop c (x ++ y) ≡ y)
take_parts {A} c n x y e h =
    ⊎_elim (λ (l : c < n). (take_at x y c (omega arith), drop_at x y c (omega arith)))
    (λ (l : n ≤ c).
    let few : length x ≤ c = omega arith in
    let q : x ++ y ≡ x = ap (λ (z : List A). x ++ z) (h l) ∙ append-nil x in
    (ap (take c) q ∙ take_all c x few, ap (drop c) q ∙ drop_of_length-le x few ∙ sym (h l)))
    (below_or c n)

-- ## Quotients

-- Below c, and c on.
pub quotient_low : (j c : ℕ) → j < c → j / c ≡ 0
quotient_low j c h = div-eq_of_lt h

pub quotient_next : (j c : ℕ) → 0 < c → (c + j) / c ≡ suc (j / c)
quotient_next j c h = add-div_left j h ∙ add-one (j / c)

-- ## A field at a time

module _ (c : ℕ) (some : 0 < c) where
  -- No samples need no field.
  pub fields_none : (n : ℕ) → n ≤ 0 → fields_in c n ≡ 0
  unfolding fields_in
  fields_none n h = quotient_low (n + (c - 1)) c (omega arith)

  -- Others need one more than those behind the first c.
  pub fields_more : (n : ℕ) → 0 < n → fields_in c n ≡ suc (fields_in c (n - c))
  unfolding fields_in
  fields_more n h =
      ⊎_elim
      (λ (l : c < n).
      let e : n + (c - 1) ≡ c + (n - c + (c - 1)) = omega arith in
      ap (λ (x : ℕ). x / c) e ∙ quotient_next (n - c + (c - 1)) c some)
      (λ (l : n ≤ c).
      let e : n + (c - 1) ≡ c + (n - 1) = omega arith in
      ap (λ (x : ℕ). x / c) e ∙ quotient_next (n - 1) c some
      ∙ ap suc (quotient_low (n - 1) c (omega arith) ∙ sym (quotient_low (n - c + (c - 1)) c (omega arith))))
      (below_or c n)

  -- As many as are needed hold them all.
  pub fields_enough : (k n : ℕ) → fields_in c n ≤ k → n ≤ k * c
  fields_enough zero n h = ⊎_elim (λ (l : 0 < n). absurd (not-suc-le-zero (subst (λ (x : ℕ). x ≤ 0) (fields_more n l) h))) (λ (l : n ≤ 0). omega (arith, zero-mul c)) (below_or 0 n)
  fields_enough (suc k) n h =
      ⊎_elim
      (λ (l : 0 < n).
      let e = fields_more n l in
      let r = fields_enough k (n - c) (omega arith) in
      omega (arith, suc-mul k c))
      (λ (l : n ≤ 0). omega arith) (below_or 0 n)

  -- One field alone.
  pub fields_one : (n : ℕ) → 0 < n → n ≤ c → fields_in c n ≡ 1
  fields_one n h l = fields_more n h ∙ ap suc (fields_none (n - c) (omega arith))

  -- What holds of no samples, and of n where it holds of those behind the first c, holds of every number of samples;
  pub by_fields : (P : ℕ → Type 0) → ((n : ℕ) → n ≤ 0 → P n) → ((n : ℕ) → 0 < n → P (n - c) → P n) → (n : ℕ) → P n
  by_fields P none more n = go (fields_in c n) n (fields_enough (fields_in c n) n (omega arith))
    where
      go : (k n : ℕ) → n ≤ k * c → P n
      go zero n h = none n (omega (arith, zero-mul c))
      go (suc k) n h = ⊎_elim (λ (l : 0 < n). more n l (go k (n - c) (omega (arith, suc-mul k c)))) (λ (l : n ≤ 0). none n l) (below_or 0 n)

  -- and of every list.
  pub by_shares : {A : Type 0} (P : List A → Type 0) → ((l : List A) → length l ≤ 0 → P l) → ((l : List A) → 0 < length l → P (drop c l) → P l) → (l : List A) → P l
  by_shares {A} P none more l =
      by_fields (λ n. (x : List A) → length x ≡ n → P x) (λ n h x e. none x (omega arith))
      (λ n h rest x e. more x (omega arith) (rest (drop c x) (length-drop c x ∙ ap (λ (y : ℕ). y - c) e))) (length l) l refl

  module _ (v : ℕ) where
    -- Their bytes.
    pub length_none : (n : ℕ) → n ≤ 0 → fields_length v c n ≡ 0
    length_none n h = let e : n ≡ 0 = omega arith in omega (arith, fields_none n h, ap (λ (x : ℕ). x * v) e, zero-mul v)

    pub length_more : (n : ℕ) → 0 < n → fields_length v c n ≡ 3 + min c n * v + fields_length v c (n - c)
    length_more n h =
        let e : n ≡ min c n + (n - c) = omega arith in
        omega (arith, fields_more n h, ap (λ (x : ℕ). x * v) e, add-mul (min c n) (n - c) v)

    module _ {A : Type 0} (g : ℕ → ℕ → A) where
      -- What g gives for each: nothing for no samples,
      pub in_none : (n at : ℕ) → n ≤ 0 → in_fields g v c n at ≡ []
      unfolding in_fields
      in_none n at h = ap (λ (x : ℕ). each (λ f. g (field_count c n f) (field_place v c at f)) x) (fields_none n h)

      -- else what it gives for the first field, and then for those behind it.
      pub in_more : (n at : ℕ) → 0 < n → in_fields g v c n at ≡ g (min c n) at ∷ in_fields g v c (n - c) (at + (3 + c * v))
      unfolding in_fields
      in_more n at h =
          ap (each (λ f. g (field_count c n f) (field_place v c at f))) (fields_more n h)
          ∙ each_more (λ f. g (field_count c n f) (field_place v c at f)) (λ f. g (field_count c (n - c) f) (field_place v c (at + (3 + c * v)) f)) (fields_in c (n - c))
          (λ f l. ap₂ g (count f) (place f))
          ∙ cons_eq (ap₂ g first_count first_place) refl
        where
          count : (f : ℕ) → field_count c n (suc f) ≡ field_count c (n - c) f
          count f = omega (arith, suc-mul f c)

          place : (f : ℕ) → field_place v c at (suc f) ≡ field_place v c (at + (3 + c * v)) f
          place f = omega (arith, suc-mul f (3 + c * v))

          first_count : field_count c n 0 ≡ min c n
          first_count = omega (arith, zero-mul c)

          first_place : field_place v c at 0 ≡ at
          first_place = omega (arith, zero-mul (3 + c * v))

      -- Behind the first field the place counts only where samples are left: so the first field's own bytes do.
      pub in_next : (n at : ℕ) → 0 < n → in_fields g v c n at ≡ g (min c n) at ∷ in_fields g v c (n - c) (at + (3 + min c n * v))
      in_next n at h =
          in_more n at h
          ∙ ⊎_elim
          (λ (l : c < n).
          let e : min c n ≡ c = omega arith in
          rw e)
          (λ (l : n ≤ c). cons_eq refl (in_none (n - c) (at + (3 + c * v)) (omega arith) ∙ sym (in_none (n - c) (at + (3 + min c n * v)) (omega arith))))
          (below_or c n)

    -- LAW. The pairs by their places are the pairs of the fields.
    module _ {A : Type 0} (g : ℕ → A) where
      abbrev Same : ℕ → Type 0
      Same n = (at : ℕ) → each (λ j. g (pair_place v c at j)) n ≡ flat (in_fields (λ m p. walk g v m (p + 3)) v c n at)

      pub pairs_in_fields : (n at : ℕ) → each (λ j. g (pair_place v c at j)) n ≡ flat (in_fields (λ m p. walk g v m (p + 3)) v c n at)
      pairs_in_fields = by_fields Same none more
        where
          none : (n : ℕ) → n ≤ 0 → Same n
          none n l at =
              let e : n ≡ 0 = omega arith in
              ap (each (λ j. g (pair_place v c at j))) e ∙ sym (ap flat (in_none (λ m p. walk g v m (p + 3)) n at l))

          first : (n at : ℕ) → walk (λ j. g (pair_place v c at j)) 1 (min c n) 0 ≡ walk g v (min c n) (at + 3)
          first n at = walk_like (λ j. g (pair_place v c at j)) g 1 v (min c n) 0 (at + 3) (λ j l. ap g (place j (omega arith)))
            where
              place : (j : ℕ) → j < c → pair_place v c at (0 + j * 1) ≡ at + 3 + j * v
              place j l = rw (step_is j, quotient_low j c l) (omega arith)

          rest : (n at : ℕ) → walk (λ j. g (pair_place v c at j)) 1 (n - c) (0 + min c n * 1) ≡ each (λ j. g (pair_place v c (at + (3 + c * v)) j)) (n - c)
          rest n at = walk_like (λ j. g (pair_place v c at j)) (λ j. g (pair_place v c (at + (3 + c * v)) j)) 1 1 (n - c) (0 + min c n * 1) 0 (λ j l. ap g (place j l))
            where
              place : (j : ℕ) → j < n - c → pair_place v c at (0 + min c n * 1 + j * 1) ≡ pair_place v c (at + (3 + c * v)) (0 + j * 1)
              place j l =
                  let e : 0 + min c n * 1 + j * 1 ≡ c + j = omega arith in
                  rw (e, step_is j, quotient_next j c some) (omega (arith, add-mul c j v))

          more : (n : ℕ) → 0 < n → Same (n - c) → Same n
          more n l behind at =
              let sum : n ≡ min c n + (n - c) = omega arith in
              ap (λ (x : ℕ). walk (λ j. g (pair_place v c at j)) 1 x 0) sum
              ∙ walk_parts (λ j. g (pair_place v c at j)) 1 (min c n) (n - c) 0
              ∙ ap₂ (λ (x y : List A). x ++ y) (first n at) (rest n at ∙ behind (at + (3 + c * v)))
              ∙ sym (ap flat (in_more (λ m p. walk g v m (p + 3)) n at l))

  -- A list in shares.
  module _ {A : Type 0} where
    pub shares_none : (l : List A) → length l ≤ 0 → shares c l ≡ []
    unfolding shares
    shares_none l h = ap (each (λ f. take c (drop (f * c) l))) (fields_none (length l) h)

    pub shares_more : (l : List A) → 0 < length l → shares c l ≡ take c l ∷ shares c (drop c l)
    unfolding shares
    shares_more l h =
        ap (each (λ f. take c (drop (f * c) l))) (fields_more (length l) h)
        ∙ each_more (λ f. take c (drop (f * c) l)) (λ f. take c (drop (f * c) (drop c l))) (fields_in c (length l - c)) (λ f m. let e : suc f * c ≡ c + f * c = omega (arith, suc-mul f c) in ap (take c) (ap (λ (x : ℕ). drop x l) e ∙ sym (drop-drop (f * c) c l)))
        ∙ cons_eq (ap (λ (x : ℕ). take c (drop x l)) (zero-mul c)) (ap (each (λ f. take c (drop (f * c) (drop c l)))) (ap (fields_in c) (sym (length-drop c l))))

-- ## The field of a sample

module _ (c : ℕ) (some : 0 < c) where
  -- Sample i of field f is sample f × c + i; its field is f.
  pub field_of : (f i : ℕ) → i < c → (f * c + i) / c ≡ f
  field_of zero i h = ap (λ (x : ℕ). (x + i) / c) (zero-mul c) ∙ ap (λ (x : ℕ). x / c) (low i) ∙ quotient_low i c h
    where
      low : (i : ℕ) → 0 + i ≡ i
      low i = omega arith
  field_of (suc f) i h =
      let e : suc f * c + i ≡ c + (f * c + i) = omega (arith, suc-mul f c) in
      ap (λ (x : ℕ). x / c) e ∙ quotient_next (f * c + i) c some ∙ ap suc (field_of f i h)

  -- Its place is behind the tag and length of its field, and behind the i samples before it there.
  pub place_of : (v at f i : ℕ) → i < c → pair_place v c at (f * c + i) ≡ field_place v c at f + 3 + i * v
  place_of v at f i h =
      rw (field_of f i h) (omega (arith, add-mul (f * c) i v, mul_assoc f c v, times3))
    where
      times3 : f * (3 + c * v) ≡ 3 * f + f * (c * v)
      times3 = mul_comm f (3 + c * v) ∙ add-mul 3 (c * v) f ∙ ap (λ (x : ℕ). 3 * f + x) (mul_comm (c * v) f)

  -- Every sample has its field among those that are needed.
  pub field_in_lem : (n f : ℕ) → f * c < n → f < fields_in c n
  field_in_lem n f h = ⊎_elim (λ l. l) (λ (l : fields_in c n ≤ f). absurd (no (fields_enough c some f n l))) (below_or f (fields_in c n))
    where
      no : n ≤ f * c → ⊥
      no l = let z : 1 ≤ 0 = omega arith in omega arith

  -- And each field that is needed has some.
  pub field_some : (f n : ℕ) → f < fields_in c n → f * c < n
  field_some zero n h = ⊎_elim (λ (l : 0 < n). omega (arith, zero-mul c)) (λ (l : n ≤ 0). absurd (none l)) (below_or 0 n)
    where
      none : n ≤ 0 → ⊥
      none l = omega (arith, fields_none c some n l)
  field_some (suc f) n h =
      ⊎_elim (λ (l : 0 < n). let e = fields_more c some n l in let r = field_some f (n - c) (omega arith) in omega (arith, suc-mul f c)) (λ (l : n ≤ 0). absurd (none l)) (below_or 0 n)
    where
      none : n ≤ 0 → ⊥
      none l = omega (arith, fields_none c some n l)

-- ## What the pairs give, joined or added up field by field

flat_append : {A : Type 0} (x y : List (List A)) → flat (x ++ y) ≡ flat x ++ flat y
flat_append [] y = refl
flat_append (a ∷ x) y = ap (λ l. a ++ l) (flat_append x y) ∙ sym (append_assoc a (flat x) (flat y))

sum_append : (x y : List ℕ) → sum (x ++ y) ≡ sum x + sum y
sum_append [] y = omega arith
sum_append (a ∷ x) y = omega (arith, sum_append x y)

module _ (c : ℕ) (some : 0 < c) (v : ℕ) where
  -- Functions that give the same of each field.
  pub in_like : {A : Type 0} (g h : ℕ → ℕ → A) → ((m p : ℕ) → g m p ≡ h m p) → (n at : ℕ) → in_fields g v c n at ≡ in_fields h v c n at
  unfolding in_fields
  in_like g h e n at = each_like _ _ (fields_in c n) (λ f l. e (field_count c n f) (field_place v c at f))

  -- Lists of the pairs, joined in their fields.
  pub flat_in_fields : {A : Type 0} (g : ℕ → List A) (n at : ℕ) → flat (each (λ j. g (pair_place v c at j)) n) ≡ flat (in_fields (λ m p. flat (walk g v m (p + 3))) v c n at)
  flat_in_fields {A} g n at = ap flat (pairs_in_fields c some v g n at) ∙ joined n at
    where
      joined : (n at : ℕ) → flat (flat (in_fields (λ m p. walk g v m (p + 3)) v c n at)) ≡ flat (in_fields (λ m p. flat (walk g v m (p + 3))) v c n at)
      joined =
          by_fields c some (λ n. (at : ℕ) → flat (flat (in_fields (λ m p. walk g v m (p + 3)) v c n at)) ≡ flat (in_fields (λ m p. flat (walk g v m (p + 3))) v c n at))
          (λ n h at. ap (λ l. flat (flat l)) (in_none c some v (λ m p. walk g v m (p + 3)) n at h) ∙ sym (ap flat (in_none c some v (λ m p. flat (walk g v m (p + 3))) n at h)))
          (λ n h rest at.
          ap (λ l. flat (flat l)) (in_next c some v (λ m p. walk g v m (p + 3)) n at h)
          ∙ flat_append (walk g v (min c n) (at + 3)) _
          ∙ ap (λ l. flat (walk g v (min c n) (at + 3)) ++ l) (rest (at + (3 + min c n * v)))
          ∙ sym (ap flat (in_next c some v (λ m p. flat (walk g v m (p + 3))) n at h)))

  -- Numbers of the pairs, added up in their fields.
  pub sum_in_fields : (g : ℕ → ℕ) (n at : ℕ) → sum (each (λ j. g (pair_place v c at j)) n) ≡ sum (in_fields (λ m p. sum (walk g v m (p + 3))) v c n at)
  sum_in_fields g n at = ap sum (pairs_in_fields c some v g n at) ∙ added n at
    where
      added : (n at : ℕ) → sum (flat (in_fields (λ m p. walk g v m (p + 3)) v c n at)) ≡ sum (in_fields (λ m p. sum (walk g v m (p + 3))) v c n at)
      added =
          by_fields c some (λ n. (at : ℕ) → sum (flat (in_fields (λ m p. walk g v m (p + 3)) v c n at)) ≡ sum (in_fields (λ m p. sum (walk g v m (p + 3))) v c n at))
          (λ n h at. ap (λ l. sum (flat l)) (in_none c some v (λ m p. walk g v m (p + 3)) n at h) ∙ sym (ap sum (in_none c some v (λ m p. sum (walk g v m (p + 3))) n at h)))
          (λ n h rest at.
          ap (λ l. sum (flat l)) (in_next c some v (λ m p. walk g v m (p + 3)) n at h)
          ∙ sum_append (walk g v (min c n) (at + 3)) _
          ∙ ap (λ (x : ℕ). sum (walk g v (min c n) (at + 3)) + x) (rest (at + (3 + min c n * v)))
          ∙ sym (ap sum (in_next c some v (λ m p. sum (walk g v m (p + 3))) n at h)))

-- A product by parts: c of n, and the others.
pub times_parts : (c n v : ℕ) → n * v ≡ min c n * v + (n - c) * v
times_parts c n v =
    let e : n ≡ min c n + (n - c) = omega arith in
    ap (λ (x : ℕ). x * v) e ∙ add-mul (min c n) (n - c) v

-- Places that rise.
pub rises : (place wide : ℕ → ℕ) → ((j : ℕ) → place (j + 1) ≡ place j + wide j) → (t k : ℕ) → place t ≤ place (t + k)
rises place wide next t zero = rw (add-zero t) (omega arith)
rises place wide next t (suc k) =
    let e : t + suc k ≡ t + k + 1 = omega arith in
    rw e (omega (arith, rises place wide next t k, next (t + k)))
