-- The key of a record by rows of numbers of one width, and trace by trace. Assumes nothing.
use mathlib.Core.Path.{◌≡◌, refl, sym, ap, ap₂, ◌∙◌}
use mathlib.Core.Bool.{true, false}
use mathlib.Core.Logic.{⊎_elim}
use Rattle.std.specs.Prelude.{min}
use Rattle.std.specs.Ordering.{nat_cmp}
use Rattle.std.specs.Cmp.Lexicographic.{slice_cmp}
use Rattle.exact.proofs.OrderLaws.{number_order}
use Rattle.std.specs.Cmp.{nat_cmp_is}
use Rattle.numbers.proofs.SignLaws.{below_or}
use mathlib.Core.List.{List, [], ◌∷◌, ◌++◌, map, append_assoc, append-nil}
use Prim.Native.Nat.{ℕ, zero, suc, ◌+◌, ◌-◌, ◌*◌, ◌^◌, ◌≤◌, ◌<◌}
use native.Mathlib.Nat.{not-suc-le-zero, zero-mul, suc-mul, add-zero}
use native.Mathlib.Omega.{arith}
use borrow.Author.Tests.{lt-ltb}
use lib.IntN.{ℤ, pos, nat_abs}
use lib.ListN.{length, get_or, replicate, take, drop, length-append, drop_of_length-le}
use Rattle.std.proofs.Math.Seq.{drop-cons}
use Rattle.compare.specs.declared.Row.{Row}
use Rattle.compare.specs.declared.Width.TheVariants.{Two, Four}
use Rattle.numbers.specs.Walk.{walk, flat, bytes_at}
use Rattle.numbers.specs.BigEndian.{number}
use Rattle.numbers.specs.TwosComplement.{signed_of}
use Rattle.numbers.proofs.WalkLaws.{size_walk, map_walk, walk_each, split, bytes_between}
use Rattle.fields.specs.Fields.{pair_place}
use Rattle.reel.specs.Layout.{fields_from, binary_widths, binary_fields, trace_widths, trace_fields, field_number}
use Rattle.record.specs.Kind.{tag04}
use Rattle.record.specs.Form.{held_samples, held_count, share_in, behind_trace_in, trace_place_in, trace_place, traces_place}
use Rattle.record.specs.Held.{held_value, held_values_in}
use Rattle.record.proofs.FormLaws.{place_next}
use Rattle.exact.specs.Order.{or_else, lex_z}
use Rattle.std.specs.declared.cmp.Ordering.{Ordering}
use Rattle.std.specs.declared.cmp.Ordering.TheVariants.{Less, Equal, Greater}
use Rattle.compare.specs.Key.{card_key, binary_key, header_key, trace_key, traces_key, key_of}
use Rattle.std.specs.Ordering.{is_ne}
use Rattle.compare.specs.Parts.{number_at, row_of, low_rows, high_rows, width_bytes, rows_key, rows_end, behind_traces, key_from}
use Rattle.compare.proofs.LexLaws.{lex_append, lex_is, lex_self, decided, undecided}

-- ## One part after the other

-- the first part decides, or it doesn't and the second is the answer
pub first_decides : (r x y : Ordering) → r ≡ x → is_ne r ≡ true → r ≡ or_else x y
first_decides r x y e d = e ∙ sym (decided x y (sym (ap is_ne e) ∙ d))

pub behind_first : (c x y : Ordering) → c ≡ x → is_ne c ≡ false → or_else x y ≡ y
behind_first c x y e d = ap (λ (z : Ordering). or_else z y) (sym e ∙ undecided c d)

-- two parts of the same length, and three
pub two_parts : (x₁ x₂ y₁ y₂ : List ℤ) → length x₁ ≡ length y₁ → lex_z (x₁ ++ x₂) (y₁ ++ y₂) ≡ or_else (lex_z x₁ y₁) (lex_z x₂ y₂)
two_parts x₁ x₂ y₁ y₂ e = lex_append x₁ y₁ x₂ y₂ e

pub three_parts : (x₁ x₂ x₃ y₁ y₂ y₃ : List ℤ) → length x₁ ≡ length y₁ → length x₂ ≡ length y₂
    → lex_z (x₁ ++ (x₂ ++ x₃)) (y₁ ++ (y₂ ++ y₃)) ≡ or_else (lex_z x₁ y₁) (or_else (lex_z x₂ y₂) (lex_z x₃ y₃))
three_parts x₁ x₂ x₃ y₁ y₂ y₃ e f = lex_append x₁ y₁ (x₂ ++ x₃) (y₂ ++ y₃) e ∙ ap (or_else (lex_z x₁ y₁)) (lex_append x₂ y₂ x₃ y₃ f)

row_size : (s : List ℕ) (w k p : ℕ) → length (row_of s w k p) ≡ k
unfolding row_of
row_size s w k p = size_walk (number_at s w) w k p

same_row : (a b : List ℕ) (w k p q : ℕ) → length (row_of a w k p) ≡ length (row_of b w k q)
same_row a b w k p q = row_size a w k p ∙ sym (row_size b w k q)

-- ## Rows

-- k fields of w bytes are a walk
signed_at : List ℕ → ℕ → ℕ → ℤ
signed_at s w x = signed_of (8 * w) (number (bytes_at s x w))

fields_row : (s : List ℕ) (start w k b : ℕ) (ws : List ℕ) → 1 ≤ b
    → map (field_number s start) (fields_from b (replicate k w ++ ws)) ≡ walk (signed_at s w) w k (start + (b - 1)) ++ map (field_number s start) (fields_from (b + k * w) ws)
unfolding signed_at
fields_row s start w zero b ws h =
    let e : b ≡ b + 0 * w = rw (zero-mul w) (omega arith) in
    ap (λ (x : ℕ). map (field_number s start) (fields_from x ws)) e
fields_row s start w (suc k) b ws h =
    let p : start + (b + w - 1) ≡ start + (b - 1) + w = omega arith in
    let e : b + w + k * w ≡ b + suc k * w = rw (suc-mul k w) (omega arith) in
    ap (λ (l : List ℤ). field_number s start (record { begins = b; width = w }) ∷ l)
    (fields_row s start w k (b + w) ws (omega arith) ∙ ap₂ (λ (x y : ℕ). walk (signed_at s w) w k x ++ map (field_number s start) (fields_from y ws)) p e)

pub header_rows : (s : List ℕ) (p : ℕ) → header_key s p ≡ low_rows s p ++ high_rows s p
unfolding header_key low_rows high_rows row_of trace_fields trace_widths signed_at
header_rows s p =
    let z : p + 0 ≡ p = omega arith in
    let f : List ℕ → ℕ → List ℤ = λ ws b. map (field_number s p) (fields_from b ws) in
    let r₆ : f (replicate 46 2) 89 ≡ row_of s 2 46 (p + 88) = ap (λ (ws : List ℕ). f ws 89) (sym (append-nil (replicate 46 2))) ∙ fields_row s p 2 46 89 [] (omega arith) ∙ append-nil (row_of s 2 46 (p + 88)) in
    let r₅ : f (replicate 4 4 ++ replicate 46 2) 73 ≡ row_of s 4 4 (p + 72) ++ row_of s 2 46 (p + 88) = fields_row s p 4 4 73 (replicate 46 2) (omega arith) ∙ ap (λ (x : List ℤ). row_of s 4 4 (p + 72) ++ x) r₆ in
    let r₄ : f (replicate 2 2 ++ (replicate 4 4 ++ replicate 46 2)) 69 ≡ row_of s 2 2 (p + 68) ++ (row_of s 4 4 (p + 72) ++ row_of s 2 46 (p + 88)) = fields_row s p 2 2 69 (replicate 4 4 ++ replicate 46 2) (omega arith) ∙ ap (λ (x : List ℤ). row_of s 2 2 (p + 68) ++ x) r₅ in
    let high = row_of s 2 2 (p + 68) ++ (row_of s 4 4 (p + 72) ++ row_of s 2 46 (p + 88)) in
    let w₄ : List ℕ = replicate 2 2 ++ (replicate 4 4 ++ replicate 46 2) in
    let r₃ : f (replicate 8 4 ++ w₄) 37 ≡ row_of s 4 8 (p + 36) ++ high = fields_row s p 4 8 37 w₄ (omega arith) ∙ ap (λ (x : List ℤ). row_of s 4 8 (p + 36) ++ x) r₄ in
    let r₂ : f (replicate 4 2 ++ (replicate 8 4 ++ w₄)) 29 ≡ row_of s 2 4 (p + 28) ++ (row_of s 4 8 (p + 36) ++ high) = fields_row s p 2 4 29 (replicate 8 4 ++ w₄) (omega arith) ∙ ap (λ (x : List ℤ). row_of s 2 4 (p + 28) ++ x) r₃ in
    let r₁ : f (replicate 7 4 ++ (replicate 4 2 ++ (replicate 8 4 ++ w₄))) 1 ≡ row_of s 4 7 p ++ (row_of s 2 4 (p + 28) ++ (row_of s 4 8 (p + 36) ++ high)) =
    fields_row s p 4 7 1 (replicate 4 2 ++ (replicate 8 4 ++ w₄)) (omega arith) ∙ ap₂ (λ (x : ℕ) (y : List ℤ). row_of s 4 7 x ++ y) z r₂ in
    r₁ ∙ sym (append_assoc (row_of s 4 7 p) (row_of s 2 4 (p + 28) ++ row_of s 4 8 (p + 36)) high ∙ ap (λ (x : List ℤ). row_of s 4 7 p ++ x) (append_assoc (row_of s 2 4 (p + 28)) (row_of s 4 8 (p + 36)) high))

pub binary_rows : (s : List ℕ) → binary_key s ≡ row_of s 4 3 3206 ++ row_of s 2 24 3218
unfolding binary_key row_of binary_fields binary_widths signed_at
binary_rows s =
    let f : List ℕ → ℕ → List ℤ = λ ws b. map (field_number s 6) (fields_from b ws) in
    let r₂ : f (replicate 24 2) 3213 ≡ row_of s 2 24 3218 = ap (λ (ws : List ℕ). f ws 3213) (sym (append-nil (replicate 24 2))) ∙ fields_row s 6 2 24 3213 [] (omega arith) ∙ append-nil (row_of s 2 24 3218) in
    fields_row s 6 4 3 3201 (replicate 24 2) (omega arith) ∙ ap (λ (x : List ℤ). row_of s 4 3 3206 ++ x) r₂

-- ## Lengths

low_size : (s : List ℕ) (p : ℕ) → length (low_rows s p) ≡ 19
unfolding low_rows row_of
low_size s p = refl

high_size : (s : List ℕ) (p : ℕ) → length (high_rows s p) ≡ 52
unfolding high_rows row_of
high_size s p = refl

pub header_size_lem : (s : List ℕ) (p : ℕ) → length (header_key s p) ≡ 71
header_size_lem s p = ap length (header_rows s p) ∙ length-append (low_rows s p) (high_rows s p) ∙ ap₂ (λ (x y : ℕ). x + y) (low_size s p) (high_size s p)

-- the values of n samples are n
pub values_size : (s : List ℕ) (n at : ℕ) → length (held_values_in tag04 s n at) ≡ n
unfolding held_values_in
values_size s n at = size_walk (λ j. held_value s (pair_place 6 (share_in tag04 s n at) at j)) 1 n 0

pub trace_size : (s : List ℕ) (n at : ℕ) → length (trace_key s n at) ≡ 71 + n
unfolding trace_key
trace_size s n at =
    length-append (header_key s (at + 3)) (held_values_in tag04 s n (at + 183)) ∙ ap₂ (λ (x y : ℕ). x + y) (header_size_lem s (at + 3)) (values_size s n (at + 183))

pub binary_size_lem : (s : List ℕ) → length (binary_key s) ≡ 27
unfolding row_of
binary_size_lem s = ap length (binary_rows s)

-- card bytes are a row
pub card_row : (s : List ℕ) → card_key s ≡ row_of s 1 3200 3
unfolding card_key row_of bytes_at
card_row s = map_walk pos (λ a. get_or s a 0) 1 3200 3

pub card_size : (s : List ℕ) → length (card_key s) ≡ 3200
card_size s = ap length (card_row s) ∙ row_size s 1 3200 3

-- ## The parts that the code compares

module _ (a b : List ℕ) (p q : ℕ) where
  pub trace_parts : (n : ℕ) → lex_z (trace_key a n p) (trace_key b n q)
      ≡ or_else (lex_z (header_key a (p + 3)) (header_key b (q + 3))) (lex_z (held_values_in tag04 a n (p + 183)) (held_values_in tag04 b n (q + 183)))
  unfolding trace_key
  trace_parts n = two_parts (header_key a (p + 3)) (held_values_in tag04 a n (p + 183)) (header_key b (q + 3)) (held_values_in tag04 b n (q + 183)) (header_size_lem a (p + 3) ∙ sym (header_size_lem b (q + 3)))

-- ## Rows in a table

-- the row that stands first among those from row i on
abbrev pub row_in : List Row → ℕ → Row
row_in rows i = get_or rows i (record { offset = 0; width = Two; count = 0 })

-- the rows from row i on
row_on : (rows : List Row) (i : ℕ) → i < length rows → drop i rows ≡ row_in rows i ∷ drop (i + 1) rows
row_on rows i h = drop-cons rows i (record { offset = 0; width = Two; count = 0 }) h ∙ ap (λ (x : ℕ). row_in rows i ∷ drop x rows) (let z : suc i ≡ i + 1 = omega arith in z)

-- the first ends within all of them, and so do the others
pub rows_room : (rows : List Row) (i : ℕ) → i < length rows
    → ((row_in rows i).offset + (row_in rows i).count * width_bytes (row_in rows i).width ≤ rows_end (drop i rows)) × (rows_end (drop (i + 1) rows) ≤ rows_end (drop i rows))
rows_room rows i h = let e = ap rows_end (row_on rows i h) in (omega (arith, e), omega (arith, e))

-- the rows of a trace header, and of the binary header
pub header_table : (s : List ℕ) (p : ℕ)
    → rows_key s p
    (record { offset = 0; width = Four; count = 7 }
    ∷ record { offset = 28; width = Two; count = 4 }
    ∷ record { offset = 36; width = Four; count = 8 }
    ∷ record { offset = 68; width = Two; count = 2 }
    ∷ record { offset = 72; width = Four; count = 4 }
    ∷ record { offset = 88; width = Two; count = 46 }
    ∷ []) ≡ header_key s p
unfolding rows_key low_rows high_rows
header_table s p =
    let z : p + 0 ≡ p = omega arith in
    let high = row_of s 2 2 (p + 68) ++ (row_of s 4 4 (p + 72) ++ row_of s 2 46 (p + 88)) in
    ap₂ (λ (x : ℕ) (y : List ℤ). row_of s 4 7 x ++ (row_of s 2 4 (p + 28) ++ (row_of s 4 8 (p + 36) ++ (row_of s 2 2 (p + 68) ++ (row_of s 4 4 (p + 72) ++ y))))) z (append-nil (row_of s 2 46 (p + 88)))
    ∙ sym (append_assoc (row_of s 4 7 p) (row_of s 2 4 (p + 28) ++ row_of s 4 8 (p + 36)) high ∙ ap (λ (x : List ℤ). row_of s 4 7 p ++ x) (append_assoc (row_of s 2 4 (p + 28)) (row_of s 4 8 (p + 36)) high))
    ∙ sym (header_rows s p)

pub binary_table : (s : List ℕ) → rows_key s 3206 (record { offset = 0; width = Four; count = 3 } ∷ record { offset = 12; width = Two; count = 24 } ∷ []) ≡ binary_key s
unfolding rows_key
binary_table s = ap (λ (y : List ℤ). row_of s 4 3 3206 ++ y) (append-nil (row_of s 2 24 3218)) ∙ sym (binary_rows s)

module _ (a b : List ℕ) (p q : ℕ) (rows : List Row) (i : ℕ) where
  abbrev first : Ordering
  first =
      let r = row_in rows i in
      lex_z (row_of a (width_bytes r.width) r.count (p + r.offset)) (row_of b (width_bytes r.width) r.count (q + r.offset))

  pub rows_next : i < length rows → lex_z (rows_key a p (drop i rows)) (rows_key b q (drop i rows)) ≡ or_else first (lex_z (rows_key a p (drop (i + 1) rows)) (rows_key b q (drop (i + 1) rows)))
  unfolding rows_key
  rows_next h =
      let r = row_in rows i in
      ap (λ (l : List Row). lex_z (rows_key a p l) (rows_key b q l)) (row_on rows i h)
      ∙ two_parts (row_of a (width_bytes r.width) r.count (p + r.offset)) (rows_key a p (drop (i + 1) rows)) (row_of b (width_bytes r.width) r.count (q + r.offset)) (rows_key b q (drop (i + 1) rows)) (same_row a b (width_bytes r.width) r.count (p + r.offset) (q + r.offset))

  pub rows_none : length rows ≤ i → Equal ≡ lex_z (rows_key a p (drop i rows)) (rows_key b q (drop i rows))
  unfolding rows_key
  rows_none h = sym (ap (λ (l : List Row). lex_z (rows_key a p l) (rows_key b q l)) (drop_of_length-le rows h))

-- ## Traces

some_more : (k l : List ℤ) → 0 < length k → lex_z (k ++ l) [] ≡ Greater
some_more [] l h = absurd (not-suc-le-zero h)
some_more (x ∷ k) l h = refl

some_less : (k l : List ℤ) → 0 < length k → lex_z [] (k ++ l) ≡ Less
some_less [] l h = absurd (not-suc-le-zero h)
some_less (x ∷ k) l h = refl

-- one trace, and those behind it
key_one : (s : List ℕ) (n t at : ℕ) → 0 < t → key_from s n t at ≡ trace_key s n at ++ key_from s n (t - 1) (behind_trace_in tag04 s n at)
unfolding key_from
key_one s n zero at h = absurd (not-suc-le-zero h)
key_one s n (suc t) at h = let e : suc t - 1 ≡ t = omega arith in rw e

key_none : (s : List ℕ) (n t at : ℕ) → t ≤ 0 → key_from s n t at ≡ []
unfolding key_from
key_none s n zero at h = refl
key_none s n (suc t) at h = absurd (not-suc-le-zero h)

pub behind_one : (s : List ℕ) (n t at : ℕ) → 0 < t → behind_traces s n t at ≡ behind_traces s n (t - 1) (behind_trace_in tag04 s n at)
unfolding behind_traces
behind_one s n zero at h = absurd (not-suc-le-zero h)
behind_one s n (suc t) at h = let e : suc t - 1 ≡ t = omega arith in rw e

pub behind_rises : (s : List ℕ) (n t at : ℕ) → at ≤ behind_traces s n t at
unfolding behind_traces behind_trace_in
behind_rises s n zero at = omega arith
behind_rises s n (suc t) at = omega (arith, behind_rises s n t (behind_trace_in tag04 s n at))

-- the next trace ends before all of them do
pub next_room : (s : List ℕ) (n t at : ℕ) → 0 < t → behind_trace_in tag04 s n at ≤ behind_traces s n t at
next_room s n t at h = omega (arith, behind_one s n t at h, behind_rises s n (t - 1) (behind_trace_in tag04 s n at))

module _ (a b : List ℕ) (n x y p q : ℕ) where
  pub traces_next : 0 < x → 0 < y → lex_z (key_from a n x p) (key_from b n y q)
      ≡ or_else (lex_z (trace_key a n p) (trace_key b n q)) (lex_z (key_from a n (x - 1) (behind_trace_in tag04 a n p)) (key_from b n (y - 1) (behind_trace_in tag04 b n q)))
  traces_next h k =
      ap₂ lex_z (key_one a n x p h) (key_one b n y q k)
      ∙ lex_append (trace_key a n p) (trace_key b n q) (key_from a n (x - 1) (behind_trace_in tag04 a n p)) (key_from b n (y - 1) (behind_trace_in tag04 b n q)) (trace_size a n p ∙ sym (trace_size b n q))

  pub traces_more : 0 < x → y ≤ 0 → Greater ≡ lex_z (key_from a n x p) (key_from b n y q)
  traces_more h k =
      sym (ap₂ lex_z (key_one a n x p h) (key_none b n y q k) ∙ some_more (trace_key a n p) (key_from a n (x - 1) (behind_trace_in tag04 a n p)) (omega (arith, trace_size a n p)))

  pub traces_less : x ≤ 0 → 0 < y → Less ≡ lex_z (key_from a n x p) (key_from b n y q)
  traces_less h k =
      sym (ap₂ lex_z (key_none a n x p h) (key_one b n y q k) ∙ some_less (trace_key b n q) (key_from b n (y - 1) (behind_trace_in tag04 b n q)) (omega (arith, trace_size b n q)))

  pub traces_same : x ≤ 0 → y ≤ 0 → Equal ≡ lex_z (key_from a n x p) (key_from b n y q)
  traces_same h k = sym (ap₂ lex_z (key_none a n x p h) (key_none b n y q k))

-- where one of the two has no more traces, the counts decide
pub traces_end : (a b : List ℕ) (n s t k p q : ℕ) → k ≡ min s t → nat_cmp s t ≡ lex_z (key_from a n (s - k) p) (key_from b n (t - k) q)
traces_end a b n s t k p q e =
    ⊎_elim (λ (l : s < t). sym (nat_cmp_is s t Less l) ∙ traces_less a b n (s - k) (t - k) p q (omega (arith, e, l)) (omega (arith, e, l)))
    (λ (l : t ≤ s).
    ⊎_elim (λ (m : t < s). sym (nat_cmp_is s t Greater m) ∙ traces_more a b n (s - k) (t - k) p q (omega (arith, e, m)) (omega (arith, e, m)))
    (λ (m : s ≤ t). let z : s ≡ t = omega arith in sym (nat_cmp_is s t Equal z) ∙ traces_same a b n (s - k) (t - k) p q (omega (arith, e, z)) (omega (arith, e, z))) (below_or t s))
    (below_or s t)

-- from the place of trace t on, they are the traces by their numbers
key_walk : (s : List ℕ) (n k t : ℕ) → key_from s n k (trace_place s n t) ≡ flat (walk (λ j. trace_key s n (trace_place s n j)) 1 k t)
unfolding key_from
key_walk s n zero t = refl
key_walk s n (suc k) t =
    ap (λ (x : List ℤ). trace_key s n (trace_place s n t) ++ x) (ap (key_from s n k) (sym (place_next tag04 s n t)) ∙ key_walk s n k (t + 1))

pub key_traces : (s : List ℕ) (n t : ℕ) → key_from s n t traces_place ≡ traces_key s n t
unfolding traces_key trace_place_in
key_traces s n t = key_walk s n t 0

pub behind_walk : (s : List ℕ) (n k t : ℕ) → behind_traces s n k (trace_place s n t) ≡ trace_place s n (t + k)
unfolding behind_traces
behind_walk s n zero t = ap (trace_place s n) (sym (add-zero t))
behind_walk s n (suc k) t =
    let e : t + 1 + k ≡ t + suc k = omega arith in
    ap (behind_traces s n k) (sym (place_next tag04 s n t)) ∙ behind_walk s n k (t + 1) ∙ ap (trace_place s n) e

-- ## Records

pub record_parts : (a b : List ℕ) (x y : List ℤ)
    → lex_z (card_key a ++ (binary_key a ++ x)) (card_key b ++ (binary_key b ++ y)) ≡ or_else (lex_z (card_key a) (card_key b)) (or_else (lex_z (binary_key a) (binary_key b)) (lex_z x y))
record_parts a b x y = three_parts (card_key a) (binary_key a) x (card_key b) (binary_key b) y (card_size a ∙ sym (card_size b)) (binary_size_lem a ∙ sym (binary_size_lem b))

-- the key of a record by its N and T
pub key_is : (s : List ℕ) (n t : ℕ) → held_samples s ≡ n → held_count s n ≡ t → key_of s ≡ card_key s ++ (binary_key s ++ key_from s n t traces_place)
unfolding key_of
key_is s n t e f =
    ap (λ (x : ℕ). card_key s ++ (binary_key s ++ traces_key s x (held_count s x))) e
    ∙ ap (λ (x : List ℤ). card_key s ++ (binary_key s ++ x)) (ap (traces_key s n) f ∙ sym (key_traces s n t))

-- card bytes by the library's order of slices
bytes_order : (k l : List ℕ) → slice_cmp nat_cmp k l ≡ lex_z (map pos k) (map pos l)
bytes_order [] [] = refl
bytes_order [] (y ∷ l) = refl
bytes_order (x ∷ k) [] = refl
bytes_order (x ∷ k) (y ∷ l) = ap₂ or_else (number_order x y) (bytes_order k l)

pub cards_order : (a b : List ℕ) → 3203 ≤ length a → 3203 ≤ length b → slice_cmp nat_cmp (take 3200 (drop 3 a)) (take 3200 (drop 3 b)) ≡ lex_z (card_key a) (card_key b)
unfolding card_key
cards_order a b h k = bytes_order (take 3200 (drop 3 a)) (take 3200 (drop 3 b)) ∙ ap₂ (λ (x y : List ℕ). lex_z (map pos x) (map pos y)) (bytes_between a 3 3203 3200 h refl) (bytes_between b 3 3203 3200 k refl)

-- what stands before the traces in two parts
pub front_two : (a b : List ℕ) → lex_z (card_key a ++ binary_key a) (card_key b ++ binary_key b) ≡ or_else (lex_z (card_key a) (card_key b)) (lex_z (binary_key a) (binary_key b))
front_two a b = two_parts (card_key a) (binary_key a) (card_key b) (binary_key b) (card_size a ∙ sym (card_size b))

-- the same in two parts: what stands before the traces, and the traces
pub front_parts : (a b : List ℕ) (x y : List ℤ)
    → lex_z (card_key a ++ (binary_key a ++ x)) (card_key b ++ (binary_key b ++ y)) ≡ or_else (lex_z (card_key a ++ binary_key a) (card_key b ++ binary_key b)) (lex_z x y)
front_parts a b x y =
    ap₂ lex_z (sym (append_assoc (card_key a) (binary_key a) x)) (sym (append_assoc (card_key b) (binary_key b) y))
    ∙ two_parts (card_key a ++ binary_key a) x (card_key b ++ binary_key b) y
    (length-append (card_key a) (binary_key a) ∙ ap₂ (λ (m n : ℕ). m + n) (card_size a ∙ sym (card_size b)) (binary_size_lem a ∙ sym (binary_size_lem b)) ∙ sym (length-append (card_key b) (binary_key b)))

pub front_same : (a b : List ℕ) → lex_z (card_key a ++ binary_key a) (card_key b ++ binary_key b) ≡ Equal → lex_z (binary_key a) (binary_key b) ≡ Equal
front_same a b e =
    let h = (split (card_key a) (card_key b) (binary_key a) (binary_key b) (card_size a ∙ sym (card_size b)) (lex_is (card_key a ++ binary_key a) (card_key b ++ binary_key b) e)).1 in
    ap (lex_z (binary_key a)) (sym h) ∙ lex_self (binary_key a)

-- records with the same binary numbers have the same N
low_signed : (n : ℕ) → n ≤ 2 ^ 15 - 1 → nat_abs (signed_of 16 n) ≡ n
low_signed n h = rw (lt-ltb n (2 ^ 15) (omega arith))

pub same_samples : (a b : List ℕ) → held_samples a ≤ 2 ^ 15 - 1 → held_samples b ≤ 2 ^ 15 - 1 → lex_z (binary_key a) (binary_key b) ≡ Equal → held_samples a ≡ held_samples b
unfolding row_of
same_samples a b h k e =
    let r = sym (binary_rows a) ∙ lex_is (binary_key a) (binary_key b) e ∙ binary_rows b in
    let w = (split (row_of a 4 3 3206) (row_of b 4 3 3206) (row_of a 2 24 3218) (row_of b 2 24 3218) (same_row a b 4 3 3206 3206) r).1 in
    let n : number_at a 2 3226 ≡ number_at b 2 3226 = walk_each (number_at a 2) (number_at b 2) 2 2 24 24 3218 3218 w 4 (omega arith) in
    sym (low_signed (held_samples a) h) ∙ ap nat_abs n ∙ low_signed (held_samples b) k
