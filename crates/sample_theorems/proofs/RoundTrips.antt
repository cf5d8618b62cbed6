-- # There and back
use mathlib.Core.Path.{◌≡◌, refl, sym, ap, ap₂, ◌∙◌}
use mathlib.Core.List.{List, [], ◌∷◌}
use Prim.Native.Nat.{ℕ}
use native.Mathlib.Omega.{arith}
use lib.ListN.{length}
use lib.IntN.{ℤ}
use Rattle.numbers.specs.Terms.{Bytes}
use Rattle.numbers.specs.Outcome.{taken, Outcome}
use Rattle.formats.specs.Value.{exact_value}
use Rattle.value.specs.Pair.{pair_of, pair_in}
use Rattle.value.specs.Writing.{write_pair}
use Rattle.value.specs.declared.Pair.{Pair}
use Rattle.formats.specs.Written.{Written, Word, Refused}
use Rattle.value.proofs.WrittenLaws.{written_is}
use Rattle.sample.specs.Reading.{not_normal, read_word}
use Rattle.sample.specs.Calls.{single_word, read_said, word_outcome, write_said, pair_outcome}
use Rattle.sample.specs.Reading.{Sample, Taken}
use Rattle.sample.specs.Reading as sample
use Rattle.sample_theorems.specs.Statements.{Back}
use Rattle.sample_theorems.proofs.Pairs.{bytes_pair, pair_bytes_lem, taken_code, taken_good, value_pair_back, reading_value, reading_canonical, reading_takes}
use Rattle.sample_theorems.proofs.Words.{writing_sound, writing_complete, writing_normal, writing_0}

-- THEOREM. A pair that is written under a code, and the word read under that code, give the pair again.
pub write_read : (code : ℕ) (p : Pair) (n : ℕ) → write_pair code p ≡ Word n → read_word code (single_word code n) ≡ Taken p.e p.m
write_read code p n h =
    let t = written_is code p n h in
    let s = writing_sound code p n h in
    let same : pair_of (exact_value code (single_word code n)) ≡ p = ap pair_of s.value ∙ value_pair_back p t.1 in
    reading_takes code (single_word code n) t.0 s.good ∙ ap (λ (q : Pair). Taken q.e q.m) same

-- THEOREM. A word that is read is never refused when its pair is written under the same code, and a word of the same value is written,
-- under code 1 the normal one.
pub read_write : (code : ℕ) (w : List ℕ) (e m : ℤ) → Bytes w → read_word code w ≡ Taken e m → (n : ℕ) × Back code w (record { e = e; m = m }) n
read_write code w e m b t =
    let p : Pair = record { e = e; m = m } in
    let x = writing_complete code p w (taken_code code w e m t) (reading_canonical code w e m b t) b (taken_good code w e m t) (sym (reading_value code w e m t)) in (
      x.0,
      record {
        word = x.1;
        value = (writing_sound code p x.0 x.1).value ∙ reading_value code w e m t;
        normal = λ q. writing_normal p x.0 (ap (λ (c : ℕ). write_pair c p) (sym q) ∙ x.1);
      },
    )

-- ## The two calls, by the bytes that they hand out

-- a word that was written, read again
again : (code : ℕ) (p : Pair) (n : ℕ) → write_pair code p ≡ Word n → word_outcome code (single_word code n) ≡ read_said 0 (Taken p.e p.m)
again code p n h = ap₂ read_said (writing_0 code p n h) (write_read code p n h)

-- THEOREM. Six bytes that are written, and the word read under the same code, give the six bytes again, and 0: under
-- code 1 the word is the normal one.
pub calls_write_read : (code : ℕ) (b : List ℕ) → length b ≡ 6 → Bytes b → (pair_outcome code b).said ≡ taken []
    → word_outcome code (pair_outcome code b).bytes ≡ record { said = taken (0 ∷ []); bytes = b }
calls_write_read code b k h t = go (write_pair code (pair_in b)) refl t
  where
    go : (r : Written) → write_pair code (pair_in b) ≡ r → (write_said code r).said ≡ taken [] → word_outcome code (write_said code r).bytes ≡ record { said = taken (0 ∷ []); bytes = b }
    go (Word n) e q = again code (pair_in b) n e ∙ ap (λ (l : List ℕ). outcome l) (pair_bytes_lem b k h)
      where
        outcome : List ℕ → Outcome
        outcome l = record { said = taken (0 ∷ []); bytes = l }
    go (Refused n) e q = absurd (let z : ◌≡◌ {A = ℕ} 0 1 = cc in omega arith)

-- THEOREM. A word that is read is not refused when the six bytes are written under the same code, and the word that was written is read as
-- the same six bytes again, with 0.
pub calls_read_write : (code : ℕ) (w : List ℕ) (c : ℕ) → Bytes w → (word_outcome code w).said ≡ taken (c ∷ [])
    → ((pair_outcome code (word_outcome code w).bytes).said ≡ taken [])
    × (word_outcome code (pair_outcome code (word_outcome code w).bytes).bytes ≡ record { said = taken (0 ∷ []); bytes = (word_outcome code w).bytes })
calls_read_write code w c h t = go (read_word code w) refl t
  where
    k : ℕ
    k = not_normal code w

    go : (r : Sample) → read_word code w ≡ r → (read_said k r).said ≡ taken (c ∷ [])
        → ((pair_outcome code (read_said k r).bytes).said ≡ taken [])
        × (word_outcome code (pair_outcome code (read_said k r).bytes).bytes ≡ record { said = taken (0 ∷ []); bytes = (read_said k r).bytes })
    go (sample.Taken e m) x q =
        let p : Pair = record { e = e; m = m } in
        let y = read_write code w e m h x in
        let word : pair_outcome code (read_said k (Taken e m)).bytes ≡ write_said code (Word y.0) =
        ap (λ (b : Pair). write_said code (write_pair code b)) (bytes_pair p (reading_canonical code w e m h x)) ∙ ap (write_said code) y.1.word in
        (ap (λ (o : Outcome). o.said) word, ap (λ (o : Outcome). word_outcome code o.bytes) word ∙ again code p y.0 y.1.word)
    go (sample.Refused n) x q = absurd (let z : ◌≡◌ {A = ℕ} 0 1 = cc in omega arith)
