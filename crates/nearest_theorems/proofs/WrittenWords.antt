-- The words on the reel of a meaning: at the place of each sample stands the word of its value. Assumes nothing but what a law says.
use mathlib.Core.Path.{◌≡◌, refl, sym, ap, ap₂, ◌∙◌, subst}
use mathlib.Core.List.{List, [], ◌++◌, map, append-nil, append_assoc}
use mathlib.Core.Bool.{true, false, not}
use Prim.Native.Nat.{ℕ, ◌+◌, ◌*◌, ◌^◌, ◌<◌}
use native.Mathlib.Omega.{arith}
use borrow.Author.Tests.{ltb-true}
use lib.Dec.{T, ltb}
use lib.ListN.{length, replicate, length-append}
use lib.IntN.{ℤ}
use Rattle.numbers.specs.Walk.{walk, flat, bytes_at}
use Rattle.numbers.specs.BigEndian.{bytes_of}
use Rattle.numbers.proofs.BoolLaws.{and_true}
use Rattle.numbers.proofs.WalkLaws.{flat_size, all_both}
use Rattle.formats.specs.Codes.{is_code, sample_bytes, word_length}
use Rattle.formats.specs.Value.{is_bad, word_number}
use Rattle.formats.specs.Words.{word_of, word_bits}
use Rattle.formats.specs.Written.{Written}
use Rattle.formats.specs.Written.{Word, Refused}
use Rattle.formats.proofs.CodeLaws.{word_there}
use Rattle.format_theorems.proofs.WordTheorems.{word_sound}
use Rattle.reel.specs.Layout.{first_trace, trace_header, stride}
use Rattle.reel.specs.Meaning.{Trace, Meaning}
use Rattle.record.specs.Record.{binary_bytes}
use Rattle.fit.specs.Target.{is_unfit}
use Rattle.write_reel.specs.Reel.{sample_written, trace_written, reel_of}
use Rattle.demands.proofs.From.{From, from_start, from_parts, from_next, from_walk, from_number}
use Rattle.demands.proofs.Headers.{size_zeros, size_binary, size_header}
use Rattle.demands.proofs.Proper.{ProperTrace, Proper}
use Rattle.demands.proofs.Fitting.{FittingTrace, Fitting}
use Rattle.demands.proofs.WrittenSize.{sample_size}

-- The word at a place of a list of bytes, under a code.
abbrev pub word_in : List ℕ → ℕ → ℕ → Written
word_in s code p = Word (word_number code (bytes_at s p word_length))

module _ (code : ℕ) (c : is_code code ≡ true) where
  -- A value has a word under the code.
  abbrev Fits : ℤ → Type 0
  Fits v = is_unfit (word_of code v) ≡ false

  -- Where the bytes of a value stand, its word does.
  word_read_lem : (s : List ℕ) (v : ℤ) (at : ℕ) (rest : List ℕ) → Fits v → From s at (sample_written code v ++ rest) → word_in s code at ≡ word_of code v
  word_read_lem s v at rest h f = go (word_of code v) refl h
    where
      m : ℕ
      m = sample_bytes code

      small : (k : ℕ) → word_of code v ≡ Word k → k < 256 ^ m
      small k e = ltb-true k (256 ^ m) (and_true (ltb k (256 ^ m)) (not (is_bad code k)) (word_sound code v k c e).0).0

      go : (w : Written) → word_of code v ≡ w → is_unfit w ≡ false → word_in s code at ≡ word_of code v
      go (Word k) e q =
          ap Word (word_there s code at ∙ from_number m k rest (small k e) (subst (λ (y : Written). From s at (bytes_of m (word_bits y) ++ rest)) e f)) ∙ sym e
      go (Refused number) e q = absurd (subst T q tt)

  module _ (n i : ℕ) where
    -- A proper trace whose samples have words under the code.
    abbrev Ready : Trace → Type 0
    Ready t = ProperTrace n i t × FittingTrace code t

    -- The header of a trace on the reel, which is all of a trace without samples,
    abbrev header_of : Trace → List ℕ
    header_of t = trace_written code (record { header = t.header; values = [] })

    -- has 240 bytes,
    size_header_of : (t : Trace) → Ready t → length (header_of t) ≡ trace_header
    unfolding trace_written
    size_header_of t h = simp length-append (omega (arith, size_header n i t h.0, size_zeros 60))

    -- and the samples stand behind it.
    trace_parts : (t : Trace) → trace_written code t ≡ header_of t ++ flat (map (sample_written code) t.values)
    unfolding trace_written
    trace_parts t = simp (append_assoc, append-nil)

    -- A trace has the bytes of a stride.
    size_trace : (t : Trace) → Ready t → length (trace_written code t) ≡ stride n (sample_bytes code)
    size_trace t h =
        let samples = flat_size (sample_written code) Fits (sample_bytes code) (λ v q. sample_size code v) t.values h.1 ∙ ap (λ (k : ℕ). k * sample_bytes code) h.0.size in
        ap length (trace_parts t) ∙ length-append (header_of t) _ ∙ ap₂ (λ (x y : ℕ). x + y) (size_header_of t h) samples

    -- Where the bytes of a trace stand, so do the words of its values behind its header.
    trace_words : (s : List ℕ) (t : Trace) (at : ℕ) (rest : List ℕ) → Ready t → From s at (trace_written code t ++ rest)
        → walk (word_in s code) (sample_bytes code) n (at + trace_header) ≡ map (word_of code) t.values
    trace_words s t at rest h f =
        let parts = from_parts (header_of t) (flat (map (sample_written code) t.values)) rest (subst (λ (x : List ℕ). From s at (x ++ rest)) (trace_parts t) f) in
        let samples = from_next (header_of t) _ trace_header (size_header_of t h) parts in
        ap (λ (k : ℕ). walk (word_in s code) (sample_bytes code) k (at + trace_header)) (sym h.0.size)
        ∙ from_walk s (sample_written code) Fits (sample_bytes code) (λ v q. sample_size code v) (word_in s code) (word_of code) (word_read_lem s) t.values (at + trace_header) rest h.1 samples

    module _ (m : Meaning) (p : Proper n i m) (f : Fitting code m) where
      -- Behind the reel's headers stand its traces.
      from_traces : From (reel_of code m) first_trace (flat (map (trace_written code) m.traces) ++ [])
      unfolding reel_of
      from_traces =
          rw append-nil
          (from_next (replicate 340 0) _ 340 (size_zeros 340)
          (from_next (binary_bytes code m.binary) _ 60 (size_binary n i m p code) (from_next m.cards _ 3200 p.size (from_start (reel_of code m)))))

      -- LAW. The words of the reel, trace by trace, are those of the meaning's values.
      pub reel_words_lem : walk (λ at. walk (word_in (reel_of code m) code) (sample_bytes code) n (at + trace_header)) (stride n (sample_bytes code)) (length m.traces) first_trace
          ≡ map (λ (t : Trace). map (word_of code) t.values) m.traces
      reel_words_lem =
          from_walk (reel_of code m) (trace_written code) Ready (stride n (sample_bytes code)) size_trace _ _ (trace_words (reel_of code m)) m.traces first_trace []
          (all_both (ProperTrace n i) (FittingTrace code) m.traces p.traces f) from_traces
