-- The fields of the two headers: where they lie, and the rows by which the code finds their widths. Each is a test computed once, over
-- the fields or over the byte numbers, and carried to each of them. Assumes nothing.
use mathlib.Core.Path.{◌≡◌, refl, sym, ap, ◌∙◌, subst}
use mathlib.Core.Logic.{⊎_elim}
use mathlib.Core.List.{List, [], ◌∷◌}
use mathlib.Core.Bool.{Bool, true, false, ◌&&◌}
use Prim.Native.Nat.{ℕ, zero, suc, ◌+◌, ◌%◌, ◌≤◌, ◌<◌}
use native.Mathlib.Nat.{eq-or-lt_of_le}
use native.Mathlib.Omega.{arith}
use borrow.Author.Tests.{leb-true, eqb-true, lt-leb, lt-ltb, le-ltb}
use lib.Dec.{leb, ltb, eqb}
use Rattle.numbers.specs.Walk.{pick}
use Rattle.numbers.proofs.SignLaws.{below_or}
use Rattle.reel.specs.Layout.{Field, binary_widths, binary_fields, trace_widths, trace_fields}
use Rattle.look_up.specs.LookUp.{Found, found, none, field_in, header_fields}
use Rattle.numbers.proofs.BoolLaws.{and_true}
use Rattle.look_up.specs.Parts.{in_row, width_of, the_field}

-- ## A test of each field

-- a field of two or four bytes that begins at lo or behind it and ends before hi
pub record Lies (lo hi b w : ℕ) : Type 0 where
  pub low : lo ≤ b
  pub high : b + w ≤ hi
  pub least : 2 ≤ w
  pub most : w ≤ 4
  pub even : w % 2 ≡ 0

abbrev lies_in : ℕ → ℕ → Field → Bool
lies_in lo hi f =
    leb lo f.begins && (leb (f.begins + f.width) hi && (leb 2 f.width && (leb f.width 4 && eqb (f.width % 2) 0)))

lies_true : (lo hi : ℕ) (f : Field) → lies_in lo hi f ≡ true → Lies lo hi f.begins f.width
lies_true lo hi f e =
    let p = and_true (leb lo f.begins) _ e in
    let q = and_true (leb (f.begins + f.width) hi) _ p.1 in
    let r = and_true (leb 2 f.width) _ q.1 in
    let s = and_true (leb f.width 4) _ r.1 in
    record {
      low = leb-true _ _ p.0;
      high = leb-true _ _ q.0;
      least = leb-true _ _ r.0;
      most = leb-true _ _ s.0;
      even = eqb-true _ _ s.1;
    }

abbrev each_lies : ℕ → ℕ → List Field → Bool
each_lies lo hi [] = true
each_lies lo hi (f ∷ fs) = lies_in lo hi f && each_lies lo hi fs

-- what is found at b begins there and lies in the header
FoundAt : ℕ → ℕ → ℕ → Found → Type 0
FoundAt lo hi b (found f) = (f.begins ≡ b) × Lies lo hi b f.width
FoundAt lo hi b none = Unit {0}

found_at : (lo hi : ℕ) (fs : List Field) → each_lies lo hi fs ≡ true → (b : ℕ) → FoundAt lo hi b (field_in b fs)
unfolding field_in FoundAt
found_at lo hi [] e b = tt
found_at lo hi (f ∷ fs) e b =
    let p = and_true (lies_in lo hi f) (each_lies lo hi fs) e in
    go (eqb f.begins b) refl (lies_true lo hi f p.0) (found_at lo hi fs p.1 b)
  where
    go : (t : Bool) → eqb f.begins b ≡ t → Lies lo hi f.begins f.width → FoundAt lo hi b (field_in b fs)
        → FoundAt lo hi b (pick t (found f) (field_in b fs))
    go true q l rest =
        let is = eqb-true f.begins b q in
        (is, subst (λ (x : ℕ). Lies lo hi x f.width) is l)
    go false q l rest = rest

-- so a width tells all of the field
pub record Told (lo hi b : ℕ) (x : Found) : Type 0 where
  pub is : 0 < width_of x → x ≡ found (the_field b (width_of x))
  pub lies : 0 < width_of x → Lies lo hi b (width_of x)
  pub missing : width_of x ≡ 0 → x ≡ none

told : (lo hi b : ℕ) (x : Found) → FoundAt lo hi b x → Told lo hi b x
unfolding FoundAt
told lo hi b (found f) p =
    record {
      is = λ h. ap (λ (n : ℕ). found (the_field n f.width)) p.0;
      lies = λ h. p.1;
      missing = λ z. absurd (some z p.1.least);
    }
  where
    some : {w : ℕ} → w ≡ 0 → 2 ≤ w → ⊥
    some z h = omega arith
told lo hi b none p = record { is = λ h. absurd (empty h); lies = λ h. absurd (empty h); missing = λ z. refl }
  where
    empty : 0 < 0 → ⊥
    empty h = omega arith

-- ## A test of each byte number

abbrev every : (ℕ → Bool) → ℕ → ℕ → Bool
every t zero a = true
every t (suc n) a = t a && every t n (suc a)

each : (t : ℕ → Bool) (n a : ℕ) → every t n a ≡ true → (k : ℕ) → a ≤ k → k < a + n → t k ≡ true
each t zero a e k l h = absurd (past l h)
  where
    past : a ≤ k → k < a + 0 → ⊥
    past l h = omega arith
each t (suc n) a e k l h =
    let p = and_true (t a) (every t n (suc a)) e in
    ⊎_elim (λ (q : a ≡ k). sym (ap t q) ∙ p.0) (λ (q : a < k). each t n (suc a) p.1 k q (omega arith)) (eq-or-lt_of_le l)

-- at a byte number before the header's first or behind its last nothing begins
outside : (lo hi b : ℕ) (x : Found) → Told lo hi b x → (Lies lo hi b (width_of x) → ⊥) → 0 ≡ width_of x
outside lo hi b x t f = ⊎_elim (λ (h : 0 < width_of x). absurd (f (t.lies h))) (λ (h : width_of x ≤ 0). omega arith) (below_or 0 (width_of x))

-- rows of n byte numbers from lo on that give each width there, and 0 elsewhere
rows : (lo n : ℕ) (fs : List Field) (row : ℕ → ℕ) → ((b : ℕ) → Told lo (lo + n) b (field_in b fs)) → every (λ b. eqb (row b) (width_of (field_in b fs))) n lo ≡ true
    → ((b : ℕ) → b < lo → row b ≡ 0) → ((b : ℕ) → lo + n ≤ b → row b ≡ 0) → (b : ℕ) → row b ≡ width_of (field_in b fs)
rows lo n fs row t e before behind b =
    ⊎_elim (λ (h : b < lo). before b h ∙ outside lo (lo + n) b (field_in b fs) (t b) (λ z. low h z.low))
    (λ (h : lo ≤ b).
    ⊎_elim (λ (l : b < lo + n). eqb-true (row b) (width_of (field_in b fs)) (each (λ k. eqb (row k) (width_of (field_in k fs))) n lo e b h l))
    (λ (l : lo + n ≤ b). behind b l ∙ outside lo (lo + n) b (field_in b fs) (t b) (λ z. high l z.high z.least)) (below_or b (lo + n)))
    (below_or b lo)
  where
    low : {lo : ℕ} → b < lo → lo ≤ b → ⊥
    low h l = omega arith

    high : {hi w : ℕ} → hi ≤ b → b + w ≤ hi → 2 ≤ w → ⊥
    high h l m = omega arith

-- ## The binary header

binary_lies : each_lies 3201 3261 binary_fields ≡ true
unfolding binary_fields binary_widths
binary_lies = refl

pub binary_told : (b : ℕ) → Told 3201 3261 b (field_in b binary_fields)
binary_told b = told 3201 3261 b (field_in b binary_fields) (found_at 3201 3261 binary_fields binary_lies b)

abbrev pub binary_row : ℕ → ℕ
binary_row b = pick (ltb b 3213) (in_row 3201 4 b) (pick (ltb b 3261) (in_row 3213 2 b) 0)

binary_rows : every (λ b. eqb (binary_row b) (width_of (field_in b binary_fields))) 60 3201 ≡ true
unfolding binary_fields binary_widths field_in
binary_rows = refl

pub binary_width : (b : ℕ) → binary_row b ≡ width_of (field_in b binary_fields)
binary_width = rows 3201 60 binary_fields binary_row binary_told binary_rows before behind
  where
    before : (b : ℕ) → b < 3201 → binary_row b ≡ 0
    before b h = rw (lt-ltb b 3213 (omega arith), lt-leb 3201 b h)

    behind : (b : ℕ) → 3261 ≤ b → binary_row b ≡ 0
    behind b h = rw (le-ltb b 3213 (omega arith), le-ltb b 3261 h)

-- ## A trace's header

trace_lies : each_lies 1 181 trace_fields ≡ true
unfolding trace_fields trace_widths
trace_lies = refl

pub trace_told : (b : ℕ) → Told 1 181 b (field_in b trace_fields)
trace_told b = told 1 181 b (field_in b trace_fields) (found_at 1 181 trace_fields trace_lies b)

abbrev pub trace_row : ℕ → ℕ
trace_row b =
    pick (ltb b 29) (in_row 1 4 b)
    (pick (ltb b 37) (in_row 29 2 b)
    (pick (ltb b 69) (in_row 37 4 b)
    (pick (ltb b 73) (in_row 69 2 b) (pick (ltb b 89) (in_row 73 4 b) (pick (ltb b 181) (in_row 89 2 b) 0)))))

trace_rows : every (λ b. eqb (trace_row b) (width_of (field_in b trace_fields))) 180 1 ≡ true
unfolding trace_fields trace_widths field_in
trace_rows = refl

pub trace_width : (b : ℕ) → trace_row b ≡ width_of (field_in b trace_fields)
trace_width = rows 1 180 trace_fields trace_row trace_told trace_rows before behind
  where
    before : (b : ℕ) → b < 1 → trace_row b ≡ 0
    before b h = rw (lt-ltb b 29 (omega arith), lt-leb 1 b h)

    behind : (b : ℕ) → 181 ≤ b → trace_row b ≡ 0
    behind b h =
        rw (le-ltb b 29 (omega arith), le-ltb b 37 (omega arith), le-ltb b 69 (omega arith), le-ltb b 73 (omega arith), le-ltb b 89 (omega arith), le-ltb b 181 h)

-- ## Either header

-- what begins at b in the header that a trace number means
pub told_in : (k b : ℕ) → Told 1 3261 b (field_in b (header_fields k))
told_in k b = go (eqb k 0)
  where
    wider : {lo hi : ℕ} {x : Found} → 1 ≤ lo → hi ≤ 3261 → Told lo hi b x → Told 1 3261 b x
    wider h l t =
        record {
          is = t.is;
          lies = λ p. let y = t.lies p in record { low = omega (arith, y.low); high = omega (arith, y.high); least = y.least; most = y.most; even = y.even };
          missing = t.missing;
        }

    go : (t : Bool) → Told 1 3261 b (field_in b (pick t binary_fields trace_fields))
    go true = wider (omega arith) (omega arith) (binary_told b)
    go false = wider (omega arith) (omega arith) (trace_told b)
