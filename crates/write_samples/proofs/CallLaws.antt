-- What the calls give of pairs that are there and outputs that are as long as their words, for the crates above. Assumes nothing.
use Rattle.std.proofs.Common.{◌≡◌, ℕ, zero, suc, ◌+◌, ◌*◌, ◌≤◌, Bool, true, false, ◌&&◌, List, length, eqb, ap, ◌∙◌, arith, eq-eqb}
use borrow.Author.Tests.{le-leb}
use Rattle.numbers.specs.Walk.{pick, walk, bytes_at}
use Rattle.numbers.specs.Cause.{first_of}
use Rattle.numbers.proofs.WalkLaws.{flat_length}
use Rattle.numbers.proofs.ByteLaws.{length_bytes}
use Rattle.formats.specs.Codes.{is_code, sample_bytes, format_of}
use Rattle.formats.specs.Nearest.{nearest_in}
use Rattle.formats.proofs.DifferLaws.{differs_most}
use Rattle.formats.specs.Words.{word_bits}
use Rattle.formats.specs.Written.{Written}
use Rattle.value.specs.Pair.{pair_length, pair_in, is_canonical, value_of}
use Rattle.value.specs.Writing.{Rounded, nearest_pair}
use Rattle.value.specs.declared.Pair.{Pair}
use Rattle.write_samples.specs.Samples.{word_bytes, written_at, pair_check, pairs_there, there_and_as_long, samples_checked, sample_words, samples_written}
use Rattle.write_samples.specs.Nearest.{nearest_at, rounded_bytes, nearest_words, pairs_changed, nearest_samples_written, nearest_samples_counted}

-- ## How long words are

pub size_word : (code : ℕ) (w : Written) → length (word_bytes code w) ≡ sample_bytes code
size_word code w = length_bytes (sample_bytes code) (word_bits w)

pub size_samples : (s : List ℕ) (code n at : ℕ) → length (sample_words s code n at) ≡ n * sample_bytes code
unfolding sample_words
size_samples s code n at = flat_length (word_bytes code) (written_at s code) (sample_bytes code) (λ p. size_word code (written_at s code p)) pair_length n at

size_rounded : (code : ℕ) (w : Rounded) → length (rounded_bytes code w) ≡ sample_bytes code
size_rounded code w = length_bytes (sample_bytes code) w.bits

pub size_nearest : (s : List ℕ) (code n at : ℕ) → length (nearest_words s code n at) ≡ n * sample_bytes code
unfolding nearest_words
size_nearest s code n at = flat_length (rounded_bytes code) (nearest_at s code) (sample_bytes code) (λ p. size_rounded code (nearest_at s code p)) pair_length n at

-- ## How many pairs change

-- a pair counts once at most
changed_most : (code : ℕ) (p : Pair) → (nearest_pair code p).changed ≤ 1
changed_most code p = go (is_code code && is_canonical p) _ _ (differs_most (value_of p) (nearest_in (format_of code) (value_of p))) (omega arith)
  where
    go : (b : Bool) (v w : Rounded) → v.changed ≤ 1 → w.changed ≤ 1 → (pick b v w).changed ≤ 1
    go true v w h l = h
    go false v w h l = l

-- no more than there are pairs
pub pairs_most : (s : List ℕ) (code k at : ℕ) → pairs_changed s code k at ≤ k
unfolding pairs_changed
pairs_most s code zero at = omega arith
pairs_most s code (suc k) at = omega (arith, changed_most code (pair_in (bytes_at s at pair_length)), pairs_most s code k (at + pair_length))

-- ## The calls

module _ (s : List ℕ) (code n at : ℕ) where
  there : is_code code ≡ true → at + n * 6 ≤ length s → pairs_there s code n at ≡ true
  there i w = rw (i, le-leb (at + n * 6) (length s) w)

  -- pairs that are there are looked at
  pub samples_checked_lem : is_code code ≡ true → at + n * 6 ≤ length s → samples_checked s code n at ≡ first_of (walk (pair_check s code) 6 n at)
  unfolding samples_checked
  samples_checked_lem i w = rw (i, le-leb (at + n * 6) (length s) w)

  module _ (out : List ℕ) where
    as_given : is_code code ≡ true → at + n * 6 ≤ length s → length out ≡ n * sample_bytes code → there_and_as_long s code n at out ≡ true
    as_given i w o = ap (λ (b : Bool). b && eqb (length out) (n * sample_bytes code)) (there i w) ∙ eq-eqb (length out) (n * sample_bytes code) o

    -- they are written, exactly
    pub samples_written_lem : is_code code ≡ true → at + n * 6 ≤ length s → length out ≡ n * sample_bytes code → samples_written s code n at out ≡ sample_words s code n at
    unfolding samples_written
    samples_written_lem i w o = ap (λ (b : Bool). pick b (sample_words s code n at) out) (as_given i w o)

    -- and to the nearest
    pub as_nearest : is_code code ≡ true → at + n * 6 ≤ length s → length out ≡ n * sample_bytes code
        → (nearest_samples_counted s code n at out ≡ pairs_changed s code n at) × (nearest_samples_written s code n at out ≡ nearest_words s code n at)
    unfolding nearest_samples_written nearest_samples_counted
    as_nearest i w o =
        let e = as_given i w o in
        (ap (λ (b : Bool). pick b (pairs_changed s code n at) 0) e, ap (λ (b : Bool). pick b (nearest_words s code n at) out) e)
