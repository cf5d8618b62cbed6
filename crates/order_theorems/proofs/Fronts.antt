-- The front of a valid record is a valid record without traces, with the numbers that stand there. Assumes nothing.
use mathlib.Core.Path.{◌≡◌, sym, ap, ap₂, ◌∙◌, subst}
use mathlib.Core.Logic.{inr}
use mathlib.Core.List.{List, [], ◌++◌, append-nil}
use Prim.Native.Nat.{ℕ, ◌+◌, ◌*◌, ◌≤◌, ◌<◌}
use native.Mathlib.Nat.{not-suc-le-zero}
use native.Mathlib.Omega.{arith}
use lib.Dec.{eqb}
use lib.IntN.{ℤ}
use lib.ListN.{length, get_or, take, length-append, get_or-append}
use lib.Seq.{length-take-le, get_or-take, get_or-append-add}
use Rattle.numbers.specs.Walk.{flat, bytes_at}
use Rattle.numbers.specs.BigEndian.{number}
use Rattle.numbers.specs.Terms.{Between}
use Rattle.numbers.specs.Cause.{Fine}
use Rattle.numbers.proofs.WalkLaws.{walk_same}
use Rattle.fields.specs.Fields.{each}
use Rattle.fields.proofs.EachLaws.{run_none}
use Rattle.reel.specs.Layout.{number16}
use Rattle.reel.specs.Causes.{most_traces}
use Rattle.record.specs.Kind.{tag04}
use Rattle.record.specs.Form.{traces_place, held_samples, held_count, trace_place_in, is_trace_in, form_causes}
use Rattle.demands.specs.ValidRecord.{Stands, HeadRight, RecordRight}
use Rattle.demands.proofs.Valid.{record_fine, record_right}
use Rattle.compare.specs.Key.{card_key, binary_key, trace_key, traces_key, key_of}
use Rattle.compare.proofs.PrefixLaws.{card_key_like, binary_key_like}
use Rattle.order_theorems.specs.Front.{end_of_none, front_of, front_key}

-- ## Its bytes

module _ (s : List ℕ) (room : traces_place ≤ length s) where
  head_size : length (take traces_place s) ≡ traces_place
  head_size = length-take-le traces_place s room

  front_size : length (front_of s) ≡ 3273
  unfolding front_of end_of_none
  front_size = length-append (take traces_place s) end_of_none ∙ ap (λ (n : ℕ). n + 7) head_size

  -- those of the record, up to its traces
  front_byte : (j : ℕ) → j < traces_place → get_or (front_of s) j 0 ≡ get_or s j 0
  unfolding front_of
  front_byte j h =
      get_or-append (take traces_place s) end_of_none 0 j (subst (λ (n : ℕ). j < n) (sym head_size) h) ∙ get_or-take traces_place s j 0 h

  front_part : (at k : ℕ) → at + k ≤ traces_place → bytes_at (front_of s) at k ≡ bytes_at s at k
  unfolding bytes_at
  front_part at k h =
      walk_same (λ a. get_or (front_of s) a 0) (λ a. get_or s a 0) 1 1 k at at (λ j l. front_byte (at + j * 1) (omega arith))

  -- and the end behind them
  end_byte : (j : ℕ) → get_or (front_of s) (traces_place + j) 0 ≡ get_or end_of_none j 0
  unfolding front_of
  end_byte j = ap (λ (n : ℕ). get_or (take traces_place s ++ end_of_none) (n + j) 0) (sym head_size) ∙ get_or-append-add (take traces_place s) end_of_none j 0

  end_tag : get_or (front_of s) 3266 0 ≡ 5
  unfolding end_of_none
  end_tag = end_byte 0

  end_length : number16 (front_of s) 3267 ≡ 4
  unfolding end_of_none bytes_at
  end_length = rw (end_byte 1, end_byte 2)

  end_count : number (bytes_at (front_of s) 3269 4) ≡ 0
  unfolding end_of_none bytes_at
  end_count = rw (end_byte 3, end_byte 4, end_byte 5, end_byte 6)

  -- ## Its fields

  front_number : (at : ℕ) → at + 2 ≤ traces_place → number16 (front_of s) at ≡ number16 s at
  front_number at h = ap number (front_part at 2 h)

  front_stands : (tag size at : ℕ) → at + (3 + size) ≤ traces_place → Stands s tag size at → Stands (front_of s) tag size at
  front_stands tag size at h f =
      record {
        whole = omega (arith, front_size);
        tag_is = front_byte at (omega arith) ∙ f.tag_is;
        size_is = front_number (at + 1) (omega arith) ∙ f.size_is;
      }

  front_samples : held_samples (front_of s) ≡ held_samples s
  front_samples = front_number 3226 (omega arith)

  front_head : HeadRight s → HeadRight (front_of s)
  front_head h =
      record {
        front =
            record {
              cards = front_stands 1 3200 0 (omega arith) h.front.cards;
              card_bytes = λ j l e. h.front.card_bytes j l (sym (front_byte (3 + j) (omega arith)) ∙ e);
            };
        binary = front_stands 2 60 3203 (omega arith) h.binary;
        interval = subst (Between 1 32767) (sym (front_number 3222 (omega arith))) h.interval;
        samples = subst (Between 1 32767) (sym front_samples) h.samples;
        code = front_number 3230 (omega arith) ∙ h.code;
      }

  front_right : HeadRight s → RecordRight (front_of s) 0
  unfolding trace_place_in
  front_right h =
      record {
        end =
            record {
              until = record { head = front_head h; before = λ i l. absurd (not-suc-le-zero l) };
              few = omega arith;
              end = inr (λ e. let z : ◌≡◌ {A = ℕ} 5 3 = sym end_tag ∙ e in omega arith);
            };
        field = record { whole = omega (arith, front_size); tag_is = end_tag; size_is = end_length };
        count = end_count;
        last = omega (arith, front_size);
      }

  -- ## Its numbers

  no_traces : (n : ℕ) → held_count (front_of s) n ≡ 0
  unfolding trace_place_in
  no_traces n = run_none (is_trace_in tag04 (front_of s) n) most_traces 0 (ap (λ (x : ℕ). eqb x 3) end_tag)

  front_cards : card_key (front_of s) ≡ card_key s
  front_cards = card_key_like (front_of s) s traces_place (omega (arith, front_size)) room front_byte (omega arith)

  front_binary : binary_key (front_of s) ≡ binary_key s
  front_binary = binary_key_like (front_of s) s traces_place (omega (arith, front_size)) room front_byte (omega arith)

  no_key : (n : ℕ) → traces_key (front_of s) n (held_count (front_of s) n) ≡ []
  unfolding traces_key
  no_key n = ap (λ (t : ℕ). flat (each (λ j. trace_key (front_of s) n (trace_place_in tag04 (front_of s) n j)) t)) (no_traces n)

  front_numbers : key_of (front_of s) ≡ front_key s
  unfolding key_of
  front_numbers =
      ap₂ (λ (x y : List ℤ). x ++ y) front_cards
      (ap₂ (λ (x y : List ℤ). x ++ y) front_binary (no_key (held_samples (front_of s))) ∙ append-nil (binary_key s))

-- ## Valid records

-- a valid record is as long
has_front : (s : List ℕ) → form_causes s ≡ Fine → traces_place ≤ length s
has_front s v = (record_right s v).end.until.head.binary.whole

-- LAW. The front of a valid record is valid,
pub front_fine : (s : List ℕ) → form_causes s ≡ Fine → form_causes (front_of s) ≡ Fine
front_fine s v = record_fine (front_of s) 0 (front_right s (has_front s v) (record_right s v).end.until.head)

-- its key is the numbers that stand there,
pub front_key_is : (s : List ℕ) → form_causes s ≡ Fine → key_of (front_of s) ≡ front_key s
front_key_is s v = front_numbers s (has_front s v)

-- and it has no traces.
pub front_none : (s : List ℕ) → form_causes s ≡ Fine → held_count (front_of s) (held_samples (front_of s)) ≡ 0
front_none s v = no_traces s (has_front s v) (held_samples (front_of s))
