-- Laws of walks, of lists joined, and of the bytes of a list by offset.
-- Assumes nothing.
use Rattle.std.proofs.Common.{◌≡◌, ℕ, zero, suc, ◌+◌, ◌-◌, ◌*◌, ◌<◌, ◌≤◌, List, [], ◌∷◌, ◌++◌, map, length, get_or, take, drop, sym, refl, ap, ◌∙◌, append-nil, not-suc-le-zero, add-zero, suc-mul, zero-add, zero-mul, add-one, arith, length-append, drop_of_length-le, drop-cons, take_at, drop_at, eq-eqb, replicate, ⊎_elim}
use borrow.Author.Tests.{ne_eqb}
use lib.ListN.{get_or-eq_default}
use lib.Seq.{sets, sets-eq}
use Rattle.numbers.specs.Walk.{walk, flat, sum, bytes_at, copy_of}
use Rattle.numbers.specs.Terms.{All}
use Rattle.numbers.proofs.SignLaws.{below_or}

less_one : (k : ℕ) → suc k - 1 ≡ k
less_one k = omega arith

-- One turn of a loop that counts down from k takes m off the product: the one law of products that the loops need.
pub times_more : (k m : ℕ) → 0 < k → k * m ≡ m + (k - 1) * m
times_more zero m h = absurd (not-suc-le-zero h)
times_more (suc k) m h = rw (less_one, suc-mul) (omega arith)

-- Lists with the same first element and the same rest are the same.
pub cons_eq : {A : Type 0} {x y : A} {l k : List A} → x ≡ y → l ≡ k → x ∷ l ≡ y ∷ k
cons_eq p q = cc

-- ## Walks

-- A walk of k steps has k elements.
pub size_walk : {A : Type 0} (f : ℕ → A) (w k at : ℕ) → length (walk f w k at) ≡ k
size_walk f w zero at = refl
size_walk f w (suc k) at = ap suc (size_walk f w k (at + w))

-- A walk of at least one step is its first element, and then the walk from the next offset on, a step shorter.
pub walk_more : {A : Type 0} (f : ℕ → A) (w k at : ℕ) → 0 < k → walk f w k at ≡ f at ∷ walk f w (k - 1) (at + w)
walk_more f w zero at h = absurd (not-suc-le-zero h)
walk_more f w (suc k) at h = rw less_one

-- The offset of the first step of a walk, and of a later one.
pub at_zero : (at w : ℕ) → at + 0 * w ≡ at
at_zero at w = rw (zero-mul, add-zero)

pub at_suc : (at w j : ℕ) → at + suc j * w ≡ at + w + j * w
at_suc at w j = rw suc-mul (omega arith)

-- Where two walks give the same, each step of the one gives what that step of the other gives.
pub walk_each : {A : Type 0} (f g : ℕ → A) (w v k m a b : ℕ) → walk f w k a ≡ walk g v m b → (j : ℕ) → j < k → f (a + j * w) ≡ g (b + j * v)
walk_each f g w v zero m a b e j l = absurd (not-suc-le-zero l)
walk_each f g w v (suc k) zero a b e j l = absurd (let z = ap length e in omega arith)
walk_each f g w v (suc k) (suc m) a b e zero l =
    let h : f a ≡ g b = cc in
    ap f (at_zero a w) ∙ h ∙ sym (ap g (at_zero b v))
walk_each f g w v (suc k) (suc m) a b e (suc j) l =
    let t : walk f w k (a + w) ≡ walk g v m (b + v) = cc in
    ap f (at_suc a w j) ∙ walk_each f g w v k m (a + w) (b + v) t j (omega arith) ∙ sym (ap g (at_suc b v j))

-- Two walks of k steps are the same where each step of the one gives what that step of the other gives.
pub walk_same : {A : Type 0} (f g : ℕ → A) (w v k a b : ℕ) → ((j : ℕ) → j < k → f (a + j * w) ≡ g (b + j * v)) → walk f w k a ≡ walk g v k b
walk_same f g w v zero a b h = refl
walk_same f g w v (suc k) a b h =
    cons_eq (ap f (sym (at_zero a w)) ∙ h 0 (omega arith) ∙ ap g (at_zero b v))
    (walk_same f g w v k (a + w) (b + v) (λ j l. ap f (sym (at_suc a w j)) ∙ h (suc j) (omega arith) ∙ ap g (at_suc b v j)))

-- Element j of a walk is what step j gives, whatever stands for an element that it doesn't have.
pub walk_at : {A : Type 0} (z : A) (f : ℕ → A) (w k a j : ℕ) → j < k → get_or (walk f w k a) j z ≡ f (a + j * w)
walk_at z f w zero a j l = absurd (not-suc-le-zero l)
walk_at z f w (suc k) a zero l = ap f (sym (at_zero a w))
walk_at z f w (suc k) a (suc j) l = walk_at z f w k (a + w) j (omega arith) ∙ ap f (sym (at_suc a w j))

-- A function of each thing that a walk gives is a walk.
pub map_walk : {A B : Type 0} (h : A → B) (f : ℕ → A) (w k a : ℕ) → map h (walk f w k a) ≡ walk (λ x. h (f x)) w k a
map_walk h f w zero a = refl
map_walk h f w (suc k) a = ap (λ l. h (f a) ∷ l) (map_walk h f w k (a + w))

-- ## Sums along a walk

-- The sum over no step is 0, and that over at least one is the first number and the sum over the rest.
pub sum_none : (f : ℕ → ℕ) (w k at : ℕ) → k ≤ 0 → sum (walk f w k at) ≡ 0
sum_none f w zero at h = refl
sum_none f w (suc k) at h = absurd (not-suc-le-zero h)

pub sum_more : (f : ℕ → ℕ) (w k at : ℕ) → 0 < k → sum (walk f w k at) ≡ f at + sum (walk f w (k - 1) (at + w))
sum_more f w k at h = ap sum (walk_more f w k at h)

-- Where no number is above m, the sum over k steps isn't above k × m.
pub sum_most : (f : ℕ → ℕ) (w m : ℕ) → ((p : ℕ) → f p ≤ m) → (k at : ℕ) → sum (walk f w k at) ≤ k * m
sum_most f w m h zero at = omega arith
sum_most f w m h (suc k) at = rw (suc-mul k m) (omega (arith, h at, sum_most f w m h k (at + w)))

-- Where no step gives more than that of another walk, the sum isn't above that walk's.
pub sum_under : (f g : ℕ → ℕ) (w : ℕ) → ((p : ℕ) → f p ≤ g p) → (k at : ℕ) → sum (walk f w k at) ≤ sum (walk g w k at)
sum_under f g w h zero at = omega arith
sum_under f g w h (suc k) at = omega (arith, h at, sum_under f g w h k (at + w))

-- A sum is 0 where each of its numbers is, and only there.
pub sum_zero : (f : ℕ → ℕ) (w k a : ℕ) → ((j : ℕ) → j < k → f (a + j * w) ≡ 0) → sum (walk f w k a) ≡ 0
sum_zero f w zero a h = refl
sum_zero f w (suc k) a h =
    let x : f a ≡ 0 = ap f (sym (at_zero a w)) ∙ h 0 (omega arith) in
    let y = sum_zero f w k (a + w) (λ j l. ap f (sym (at_suc a w j)) ∙ h (suc j) (omega arith)) in
    omega (arith, x, y)

pub zero_each : (f : ℕ → ℕ) (w k a : ℕ) → sum (walk f w k a) ≡ 0 → (j : ℕ) → j < k → f (a + j * w) ≡ 0
zero_each f w zero a e j l = absurd (not-suc-le-zero l)
zero_each f w (suc k) a e zero l = ap f (at_zero a w) ∙ omega (arith, e)
zero_each f w (suc k) a e (suc j) l = ap f (at_suc a w j) ∙ zero_each f w k (a + w) (omega (arith, e)) j (omega arith)

-- ## Every element

-- What holds of each element of a list holds of each of its first k.
pub all_take : {A : Type 0} (P : A → Type 0) (k : ℕ) (l : List A) → All P l → All P (take k l)
all_take P zero l h = tt
all_take P (suc k) [] h = tt
all_take P (suc k) (x ∷ l) h = (h.0, all_take P k l h.1)

-- And of each after the first k.
pub all_drop : {A : Type 0} (P : A → Type 0) (k : ℕ) (l : List A) → All P l → All P (drop k l)
all_drop P zero l h = h
all_drop P (suc k) [] h = tt
all_drop P (suc k) (x ∷ l) h = all_drop P k l h.1

-- What holds of each element by one account and by another holds by both.
pub all_both : {A : Type 0} (P Q : A → Type 0) (l : List A) → All P l → All Q l → All (λ a. P a × Q a) l
all_both P Q [] p q = tt
all_both P Q (x ∷ l) p q = ((p.0, q.0), all_both P Q l p.1 q.1)

-- What holds at every offset holds of each element of a walk.
pub all_at : {A : Type 0} (P : A → Type 0) (f : ℕ → A) → ((a : ℕ) → P (f a)) → (w k at : ℕ) → All P (walk f w k at)
all_at P f h w zero at = tt
all_at P f h w (suc k) at = (h at, all_at P f h w k (at + w))

-- Where P of f shows Q of g at every offset, P of each element of f's walk shows Q of each of g's over the same offsets.
pub all_walk : {A B : Type 0} (P : A → Type 0) (Q : B → Type 0) (f : ℕ → A) (g : ℕ → B) → ((a : ℕ) → P (f a) → Q (g a))
    → (w k at : ℕ) → All P (walk f w k at) → All Q (walk g w k at)
all_walk P Q f g h w zero at p = tt
all_walk P Q f g h w (suc k) at p = (h at p.0, all_walk P Q f g h w k (at + w) p.1)

-- ## Lists joined

-- The lists of a walk of at least one step: the first, and then those from the next offset on.
pub flat_more : {A B : Type 0} (g : A → List B) (f : ℕ → A) (w k at : ℕ) → 0 < k
    → flat (map g (walk f w k at)) ≡ g (f at) ++ flat (map g (walk f w (k - 1) (at + w)))
flat_more g f w k at h = rw (walk_more f w k at)

-- The lists of a walk of no step are the empty list.
pub flat_none : {A B : Type 0} (g : A → List B) (f : ℕ → A) (w k at : ℕ) → k ≤ 0 → flat (map g (walk f w k at)) ≡ []
flat_none g f w zero at h = refl
flat_none g f w (suc k) at h = absurd (not-suc-le-zero h)

-- Joined lists that are the same have the same parts, where their first parts are equally long.
pub split : {A : Type 0} (s₁ s₂ t₁ t₂ : List A) → length s₁ ≡ length s₂ → s₁ ++ t₁ ≡ s₂ ++ t₂ → (s₁ ≡ s₂) × (t₁ ≡ t₂)
split s₁ s₂ t₁ t₂ n e = (
  sym (take_at s₁ t₁ (length s₁) refl) ∙ ap (take (length s₁)) e ∙ take_at s₂ t₂ (length s₁) (sym n),
  sym (drop_at s₁ t₁ (length s₁) refl) ∙ ap (drop (length s₁)) e ∙ drop_at s₂ t₂ (length s₁) (sym n),
)

-- Values, of which P holds, each encoded by g in m elements, and the encodings joined.
module _ {A B : Type 0} (g : A → List B) (P : A → Type 0) (m : ℕ) (size : (a : A) → P a → length (g a) ≡ m) where
  -- There are m elements for each value.
  pub flat_size : (l : List A) → All P l → length (flat (map g l)) ≡ length l * m
  flat_size [] p = sym (zero-mul m)
  flat_size (x ∷ l) p =
      rw suc-mul (omega (arith, length-append (g x) (flat (map g l)), size x p.0, flat_size l p.1))

  -- Where two values with the same encoding are the same, so are two lists of them, equally long, whose joined encodings are the same.
  pub flat_inj : ((a b : A) → P a → P b → g a ≡ g b → a ≡ b)
      → (l₁ l₂ : List A) → length l₁ ≡ length l₂ → All P l₁ → All P l₂ → flat (map g l₁) ≡ flat (map g l₂) → l₁ ≡ l₂
  flat_inj inj [] [] n p q e = refl
  flat_inj inj [] (y ∷ k) n p q e = absurd (let z : 0 ≡ suc (length k) = n in omega arith)
  flat_inj inj (x ∷ l) [] n p q e = absurd (let z : suc (length l) ≡ 0 = n in omega arith)
  flat_inj inj (x ∷ l) (y ∷ k) n p q e =
      let h = split (g x) (g y) (flat (map g l)) (flat (map g k)) (size x p.0 ∙ sym (size y q.0)) e in
      cons_eq (inj x y p.0 q.0 h.0) (flat_inj inj l k (omega arith) p.1 q.1 h.1)

-- Where each element of a walk becomes a list of m elements, k steps give k * m of them.
pub flat_length : {A B : Type 0} (g : A → List B) (f : ℕ → A) (m : ℕ) → ((a : ℕ) → length (g (f a)) ≡ m)
    → (w k at : ℕ) → length (flat (map g (walk f w k at))) ≡ k * m
flat_length {A} g f m h w k at =
    let sized : A → Type 0 = λ a. length (g a) ≡ m in
    flat_size g sized m (λ a p. p) (walk f w k at) (all_at sized f h w k at)
    ∙ ap (λ (n : ℕ). n * m) (size_walk f w k at)

-- ## Bytes by offset

-- The bytes from i on are the byte at i, and then the bytes from `i + 1` on.
pub drop_next : (l : List ℕ) (i : ℕ) → i < length l → drop i l ≡ get_or l i 0 ∷ drop (i + 1) l
drop_next l i h = rw (add-one, drop-cons l i 0)

-- As many bytes as were asked for, wherever the list ends.
pub size_bytes : (s : List ℕ) (at k : ℕ) → length (bytes_at s at k) ≡ k
unfolding bytes_at
size_bytes s at k = size_walk (λ a. get_or s a 0) 1 k at

bytes_walk : (s : List ℕ) (k at : ℕ) → at + k ≤ length s → take k (drop at s) ≡ walk (λ a. get_or s a 0) 1 k at
bytes_walk s zero at h = refl
bytes_walk s (suc k) at h =
    let i : at < length s = omega arith in
    rw (drop_next s at) (ap (λ (l : List ℕ). get_or s at 0 ∷ l) (bytes_walk s k (at + 1) (omega arith)))

-- A part of a slice, k bytes from `at` on, within the slice.
pub bytes_part : (s : List ℕ) (at k : ℕ) → at + k ≤ length s → take k (drop at s) ≡ bytes_at s at k
unfolding bytes_at
bytes_part s at k h = bytes_walk s k at h

-- The same for a part from a to e, as `&s[a..e]` has it.
pub bytes_between : (s : List ℕ) (a e k : ℕ) → e ≤ length s → e ≡ a + k → take (e - a) (drop a s) ≡ bytes_at s a k
bytes_between s a e k h q =
    let n : e - a ≡ k = omega arith in
    rw n (bytes_part s a k (omega arith))

-- Stores at 0, 1 and so on, one for each element, leave just the values that were stored.
pub stored : {A : Type 0} (vs out : List A) → length out ≡ length vs → sets out 0 vs ≡ vs
stored vs out h =
    let e : length out ≤ length vs = omega arith in
    sets-eq vs out 0 (omega arith) ∙ rw (zero-add, drop_of_length-le out e) (append-nil vs)

-- the first of some bytes
pub bytes_front : (s : List ℕ) (at k j : ℕ) → j ≤ k → bytes_at (bytes_at s at k) 0 j ≡ bytes_at s at j
unfolding bytes_at
bytes_front s at k j h =
    walk_same (λ a. get_or (walk (λ b. get_or s b 0) 1 k at) a 0) (λ a. get_or s a 0) 1 1 j 0 at
    (λ i l. let e : 0 + i * 1 ≡ i = omega arith in ap (λ (x : ℕ). get_or (walk (λ b. get_or s b 0) 1 k at) x 0) e ∙ walk_at 0 (λ b. get_or s b 0) 1 k at i (omega arith))

-- the four bytes from an offset on, one by one
pub four_bytes : (s : List ℕ) (at : ℕ) → bytes_at s at 4 ≡ get_or s at 0 ∷ get_or s (at + 1) 0 ∷ get_or s (at + 2) 0 ∷ get_or s (at + 3) 0 ∷ []
unfolding bytes_at
four_bytes s at =
    let b : at + 1 + 1 + 1 ≡ at + 3 = omega arith in
    let a : at + 1 + 1 ≡ at + 2 = omega arith in
    rw (b, a)

-- the six bytes from an offset on, one by one
pub six_bytes : (s : List ℕ) (at : ℕ)
    → bytes_at s at 6 ≡ get_or s at 0 ∷ get_or s (at + 1) 0 ∷ get_or s (at + 2) 0 ∷ get_or s (at + 3) 0 ∷ get_or s (at + 4) 0 ∷ get_or s (at + 5) 0 ∷ []
unfolding bytes_at
six_bytes s at =
    let d : at + 1 + 1 + 1 + 1 + 1 ≡ at + 5 = omega arith in
    let c : at + 1 + 1 + 1 + 1 ≡ at + 4 = omega arith in
    let b : at + 1 + 1 + 1 ≡ at + 3 = omega arith in
    let a : at + 1 + 1 ≡ at + 2 = omega arith in
    rw (d, c, b, a)

-- a slice copied into another of the same length
pub copied : (src out : List ℕ) {ys : List ℕ} → ys ≡ copy_of src out → length out ≡ length src → ys ≡ src
unfolding copy_of
copied src out p e = p ∙ rw (eq-eqb (length out) (length src) e)

-- a slice of another length is left as it was
pub left_alone : (src out : List ℕ) → (length out ≡ length src → ⊥) → out ≡ copy_of src out
unfolding copy_of
left_alone src out n = rw (ne_eqb (length out) (length src) n)

-- the bytes by offset, 0 for each past the end: those that are there, and zeros behind them
pub bytes_padded : (s : List ℕ) (at k z : ℕ) → k ≤ length s - at + z → bytes_at s at k ≡ take k (drop at s ++ replicate z 0)
unfolding bytes_at
bytes_padded s at k z h = go k at z h
  where
    zeros : (k at z : ℕ) → length s ≤ at → k ≤ z → walk (λ a. get_or s a 0) 1 k at ≡ take k (replicate z 0)
    zeros zero at z e h = refl
    zeros (suc k) at zero e h = absurd (not-suc-le-zero h)
    zeros (suc k) at (suc z) e h = cons_eq (get_or-eq_default s 0 e) (zeros k (at + 1) z (omega arith) (omega arith))

    go : (k at z : ℕ) → k ≤ length s - at + z → walk (λ a. get_or s a 0) 1 k at ≡ take k (drop at s ++ replicate z 0)
    go zero at z h = refl
    go (suc k) at z h =
        ⊎_elim
        (λ (i : at < length s). rw (drop_next s at i) (ap (λ (l : List ℕ). get_or s at 0 ∷ l) (go k (at + 1) z (omega arith))))
        (λ (e : length s ≤ at). rw (drop_of_length-le s e) (zeros (suc k) at z e (omega arith)))
        (below_or at (length s))

-- values stored one by one in a slice as long as they are
pub stored_copy : (vs out : List ℕ) → length out ≡ length vs → sets out 0 vs ≡ copy_of vs out
stored_copy vs out h = stored vs out h ∙ sym (copied vs out refl h)
