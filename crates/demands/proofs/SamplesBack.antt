-- Samples written in fields of c: how long they are, that neither 12 nor 13 applies to them where they stand, and that they are held
-- there again. Assumes nothing.
use mathlib.Core.Path.{◌≡◌, refl, sym, ap, ap₂, ◌∙◌, subst}
use mathlib.Core.Logic.{⊎_elim}
use mathlib.Core.Bool.{Bool, true, false, not, ◌&&◌}
use mathlib.Core.List.{List, [], ◌∷◌, ◌++◌, map, map-id}
use Prim.Native.Nat.{ℕ, ◌+◌, ◌*◌, ◌≤◌, ◌<◌, min}
use native.Mathlib.Nat.{mul-le-mul_right, not-suc-le-zero, eq_of_mul-eq-mul_right}
use native.Mathlib.Omega.{arith}
use borrow.Author.Tests.{ne_eqb, le-ltb}
use lib.Dec.{leb, ltb}
use lib.ListN.{length, take, drop, length-take, length-drop, take-append-drop}
use lib.IntN.{ℤ}
use Rattle.numbers.specs.Walk.{pick, walk, flat}
use Rattle.numbers.specs.Cause.{refuse_if, first_of}
use Rattle.numbers.specs.Cause.{Fine}
use Rattle.numbers.proofs.SignLaws.{below_or}
use Rattle.numbers.specs.Terms.{All, Bytes}
use Rattle.numbers.proofs.WalkLaws.{all_take, all_drop}
use Rattle.reel.specs.Layout.{number16}
use Rattle.record.specs.Form.{field_cause, pair_cause_in, field_form_in, is_earlier_in, share_in, samples_causes_in}
use Rattle.numbers.proofs.RowLaws.{holds_where, then_second}
use Rattle.demands.proofs.From.{From, from_at, from_parts, from_bytes, from_walk, from_fine}
use Rattle.numbers.proofs.AllLaws.{all_append, all_flat}
use Rattle.demands.proofs.Valid.{test_field}
use Rattle.demands.proofs.FieldBack.{bytes_field, from_content, from_rest, field_fine}
use Rattle.fields.specs.Fields.{each, pair_place, in_fields}
use Rattle.record.specs.Kind.{Kind}
use Rattle.record.specs.Record.{field_samples, samples_field_in, samples_fields_in}
use Rattle.record.specs.Held.{held_value_in, held_values_in}
use Rattle.fields.proofs.FieldsLaws.{in_none, in_next, pairs_in_fields, by_shares}
use Rattle.reel_theorems.proofs.KindLaws.{Good, Writes}
use Rattle.reel_theorems.proofs.SampleFields.{in_shares, size_pairs, shares_first, shares_empty}

module _ (k : Kind) (w : Writes k) where
  -- ## One field

  bytes_one : (l : List ℤ) → All Good l → Bytes (samples_field_in k l)
  unfolding samples_field_in
  bytes_one l h = bytes_field k.tag _ w.tag_byte (all_flat (λ b. b < 256) k.bytes Good (λ x p. w.are_bytes x) l h)

  -- A field of samples that stands in a list of bytes.
  module _ (s : List ℕ) (l : List ℤ) (h : All Good l) (at : ℕ) (rest : List ℕ) (f : From s at (samples_field_in k l ++ rest)) where
    from_pairs : From s (at + 3) (flat (map k.bytes l) ++ rest)
    unfolding samples_field_in
    from_pairs = from_content s k.tag (length l * k.width) _ (size_pairs k w l h) at rest f

    pub from_behind : From s (at + (3 + length l * k.width)) rest
    unfolding samples_field_in
    from_behind = from_rest s k.tag (length l * k.width) _ (size_pairs k w l h) at rest f

    -- 12 finds nothing where two bytes hold its length,
    pub tag_fine : length l ≤ field_samples → field_cause s k.tag (length l * k.width) at ≡ Fine
    unfolding samples_field_in
    tag_fine few =
        let m : length l * k.width ≤ field_samples * k.width = mul-le-mul_right k.width few in
        field_fine s k.tag (length l * k.width) _ (size_pairs k w l h) at rest f (omega (arith, m, w.room))

    -- nor does 13,
    pub one_fine : length l ≤ field_samples → field_form_in k s (length l) at ≡ Fine
    unfolding field_form_in
    one_fine few =
        then_second _ _ (tag_fine few)
        (from_fine s k.bytes Good k.width (λ x p. w.size x) (pair_cause_in k s)
        (λ x p r q e. ap (λ (b : Bool). refuse_if (not b) 13 p) (ap k.canonical (from_bytes (k.bytes x) r k.width (w.size x) e) ∙ w.taken x q)) l (at + 3) rest h from_pairs)

    -- and its values are those that were put there.
    pub one_again : walk (held_value_in k s) k.width (length l) (at + 3) ≡ l
    one_again =
        from_walk s k.bytes Good k.width (λ x p. w.size x) (held_value_in k s) (λ x. x)
        (λ x p r q e. ap k.value (from_bytes (k.bytes x) r k.width (w.size x) e) ∙ w.again x q) l (at + 3) rest h from_pairs
        ∙ map-id l

  -- ## Fields of c

  module _ (c : ℕ) (some : 0 < c) (few : c ≤ field_samples) where
    -- They are bytes.
    pub bytes_shares : (l : List ℤ) → All Good l → Bytes (in_shares k c l)
    bytes_shares =
        by_shares c some (λ l. All Good l → Bytes (in_shares k c l)) (λ l e g. subst Bytes (sym (shares_empty k w c some l e)) tt)
        (λ l e rest g.
        subst Bytes (sym (shares_first k w c some l e))
        (all_append (λ b. b < 256) (samples_field_in k (take c l)) (in_shares k c (drop c l)) (bytes_one (take c l) (all_take Good c l g)) (rest (all_drop Good c l g))))

    -- Where they stand,
    module _ (s : List ℕ) (rest : List ℕ) where
      -- the first field stands first,
      from_first : (l : List ℤ) (at : ℕ) → 0 < length l → From s at (in_shares k c l ++ rest) → From s at (samples_field_in k (take c l) ++ (in_shares k c (drop c l) ++ rest))
      from_first l at e f = from_parts (samples_field_in k (take c l)) (in_shares k c (drop c l)) rest (subst (λ (x : List ℕ). From s at (x ++ rest)) (shares_first k w c some l e) f)

      -- and the others behind it.
      from_others : (l : List ℤ) (at : ℕ) → 0 < length l → All Good l → From s at (in_shares k c l ++ rest)
          → From s (at + (3 + min c (length l) * k.width)) (in_shares k c (drop c l) ++ rest)
      from_others l at e g f =
          from_at (ap (λ (x : ℕ). at + (3 + x * k.width)) (length-take c l)) (from_behind s (take c l) (all_take Good c l g) at _ (from_first l at e f))

      first_few : (l : List ℤ) → length (take c l) ≤ field_samples
      first_few l = omega (arith, length-take c l, few)

      -- Neither 12 nor 13 applies to them,
      pub shares_fine : (l : List ℤ) (at : ℕ) → All Good l → From s at (in_shares k c l ++ rest) → first_of (in_fields (field_form_in k s) k.width c (length l) at) ≡ Fine
      shares_fine =
          by_shares c some (λ l. (at : ℕ) → All Good l → From s at (in_shares k c l ++ rest) → first_of (in_fields (field_form_in k s) k.width c (length l) at) ≡ Fine)
          (λ l e at g f. ap first_of (in_none c some k.width (field_form_in k s) (length l) at e))
          (λ l e behind at g f.
          let a : field_form_in k s (min c (length l)) at ≡ Fine =
          ap (λ (x : ℕ). field_form_in k s x at) (sym (length-take c l)) ∙ one_fine s (take c l) (all_take Good c l g) at _ (from_first l at e f) (first_few l) in
          let n = length-drop c l in
          let b = behind (at + (3 + min c (length l) * k.width)) (all_drop Good c l g) (from_others l at e g f) in
          ap first_of (in_next c some k.width (field_form_in k s) (length l) at e)
          ∙ then_second _ _ a (ap (λ (x : ℕ). first_of (in_fields (field_form_in k s) k.width c x (at + (3 + min c (length l) * k.width)))) (sym n) ∙ b))

      abbrev held : ℕ → ℕ → List ℤ
      held m p = walk (held_value_in k s) k.width m (p + 3)

      -- and they are held there.
      pub shares_again : (l : List ℤ) (at : ℕ) → All Good l → From s at (in_shares k c l ++ rest)
          → flat (in_fields (λ m p. walk (held_value_in k s) k.width m (p + 3)) k.width c (length l) at) ≡ l
      shares_again =
          by_shares c some (λ l. (at : ℕ) → All Good l → From s at (in_shares k c l ++ rest) → flat (in_fields held k.width c (length l) at) ≡ l)
          (λ l e at g f. ap flat (in_none c some k.width held (length l) at e) ∙ sym (empty l e))
          (λ l e behind at g f.
          let a : held (min c (length l)) at ≡ take c l =
          ap (λ (x : ℕ). held x at) (sym (length-take c l)) ∙ one_again s (take c l) (all_take Good c l g) at _ (from_first l at e f) in
          let n = length-drop c l in
          let b = behind (at + (3 + min c (length l) * k.width)) (all_drop Good c l g) (from_others l at e g f) in
          ap flat (in_next c some k.width held (length l) at e)
          ∙ ap₂ (λ (x y : List ℤ). x ++ y) a (ap (λ (x : ℕ). flat (in_fields held k.width c x (at + (3 + min c (length l) * k.width)))) (sym n) ∙ b)
          ∙ take-append-drop c l)
        where
          empty : (l : List ℤ) → length l ≤ 0 → l ≡ []
          empty [] h = refl
          empty (x ∷ l) h = absurd (not-suc-le-zero h)

      -- The length of the first field says how many samples it has.
      pub first_length : (l : List ℤ) (at : ℕ) → 0 < length l → All Good l → From s at (in_shares k c l ++ rest) → number16 s (at + 1) ≡ min c (length l) * k.width
      first_length l at e g f =
          (holds_where (test_field s k.tag (length (take c l) * k.width) at) (tag_fine s (take c l) (all_take Good c l g) at _ (from_first l at e f) (first_few l))).size_is
          ∙ ap (λ (x : ℕ). x * k.width) (length-take c l)

  -- ## The samples of a trace

  -- n samples in fields of 6,000 that stand in a list of bytes.
  module _ (s : List ℕ) (n : ℕ) (l : List ℤ) (size : length l ≡ n) (g : All Good l) (at : ℕ) (rest : List ℕ) (f : From s at (samples_fields_in k l ++ rest)) where
    from_shares : From s at (in_shares k field_samples l ++ rest)
    unfolding samples_fields_in
    from_shares = f

    -- LAW. They are never read in the earlier form: the length of their first field is that of 6,000, and not of more, samples.
    pub never_earlier : is_earlier_in k s n at ≡ false
    never_earlier = ⊎_elim (λ (h : field_samples < n). long h) (λ (h : n ≤ field_samples). short h) (below_or field_samples n)
      where
        no : (b : Bool) → (b && false) ≡ false
        no true = refl
        no false = refl

        short : n ≤ field_samples → is_earlier_in k s n at ≡ false
        short h = rw (le-ltb field_samples n h)

        long : field_samples < n → is_earlier_in k s n at ≡ false
        long h =
            let e : number16 s (at + 1) ≡ min field_samples (length l) * k.width = first_length field_samples (omega arith) (omega arith) s rest l at (omega arith) g from_shares in
            let m : min field_samples (length l) ≡ field_samples = omega arith in
            let d : number16 s (at + 1) ≡ field_samples * k.width = e ∙ ap (λ (x : ℕ). x * k.width) m in
            ap (λ (b : Bool). (ltb field_samples n && leb n k.earlier) && b) (ne_eqb (number16 s (at + 1)) (n * k.width) (λ q. apart_by h (sym d ∙ q)))
            ∙ no (ltb field_samples n && leb n k.earlier)
          where
            apart_by : field_samples < n → field_samples * k.width ≡ n * k.width → ⊥
            apart_by h q = let z : field_samples ≡ n = eq_of_mul-eq-mul_right k.width w.some field_samples n q in omega arith

    pub share_is : share_in k s n at ≡ field_samples
    share_is = ap (λ (b : Bool). pick b n field_samples) never_earlier

    -- LAW. Neither 12 nor 13 applies to them.
    pub samples_fine : samples_causes_in k s n at ≡ Fine
    unfolding samples_causes_in
    samples_fine =
        ap₂ (λ (c x : ℕ). first_of (in_fields (field_form_in k s) k.width c x at)) share_is (sym size)
        ∙ shares_fine field_samples (omega arith) (omega arith) s rest l at g from_shares

    -- LAW. They are held there.
    pub samples_again : held_values_in k s n at ≡ l
    unfolding held_values_in
    samples_again =
        ap₂ (λ (c x : ℕ). each (λ j. held_value_in k s (pair_place k.width c at j)) x) share_is (sym size)
        ∙ pairs_in_fields field_samples (omega arith) k.width (held_value_in k s) (length l) at
        ∙ shares_again field_samples (omega arith) (omega arith) s rest l at g from_shares

  -- LAW. They are bytes.
  pub samples_bytes : (l : List ℤ) → All Good l → Bytes (samples_fields_in k l)
  unfolding samples_fields_in
  samples_bytes l g = bytes_shares field_samples (omega arith) (omega arith) l g
