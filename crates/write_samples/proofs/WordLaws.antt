-- What the calls say and write of the pairs that stand in a row. Assumes nothing.
use Rattle.std.proofs.Common.{◌≡◌, ℕ, zero, suc, ◌+◌, ◌*◌, ◌≤◌, ◌<◌, Bool, true, false, List, length, eqb, sym, refl, ap, ◌∙◌}
use borrow.Author.Tests.{le-leb, lt-leb, eqb-true}
use Rattle.numbers.specs.Walk.{walk, flat, bytes_at}
use Rattle.numbers.specs.Cause.{Check, Refused, then, first_of}
use Rattle.numbers.proofs.WalkLaws.{map_walk, size_walk}
use Rattle.numbers.proofs.ChunkLaws.{sum_by_walk}
use Rattle.formats.specs.Codes.{is_code, sample_bytes}
use Rattle.value.specs.Pair.{pair_in}
use Rattle.value.specs.Writing.{write_pair, nearest_pair}
use Rattle.write_samples.specs.Samples.{pair_check, word_bytes, written_at, sample_words, there_and_as_long, samples_checked, samples_written}
use Rattle.write_samples.specs.Nearest.{nearest_at, rounded_bytes, nearest_words, pairs_changed, nearest_samples_written, nearest_samples_counted}
use Rattle.write_samples.specs.Pairs.{pairs_refused, words_content, rounded_content, rounded_count}

-- ## Pairs in a row

-- the pairs of a record, each by its six bytes
abbrev pub pairs_of : List ℕ → ℕ → ℕ → List (List ℕ)
pairs_of s n at = walk (λ p. bytes_at s p 6) 6 n at

many : (s : List ℕ) (n at : ℕ) {pairs : List (List ℕ)} → pairs ≡ pairs_of s n at → length pairs ≡ n
many s n at e = ap length e ∙ size_walk (λ p. bytes_at s p 6) 6 n at

-- an output that so many words make up is as long as the words of the pairs
pub room : (s : List ℕ) (n at : ℕ) {pairs : List (List ℕ)} → pairs ≡ pairs_of s n at → {w v o : ℕ} → w ≡ v → eqb o (n * w) ≡ true → o ≡ length pairs * v
room s n at {pairs} e {w} {v} {o} is h =
    eqb-true o (n * w) h ∙ ap (λ x. n * x) is ∙ ap (λ x. x * v) (sym (many s n at e))

module _ (s : List ℕ) (code : ℕ) where
  refused_walk : (n at : ℕ) → pairs_refused (write_pair code) (pairs_of s n at) at ≡ first_of (walk (pair_check s code) 6 n at)
  refused_walk zero at = refl
  refused_walk (suc n) at = ap (then (pair_check s code at)) (refused_walk n (at + 6))

  words_walk : (n at : ℕ) → words_content (sample_bytes code) (write_pair code) (pairs_of s n at) ≡ sample_words s code n at
  unfolding sample_words
  words_walk n at =
      ap flat (map_walk (λ b. word_bytes code (write_pair code (pair_in b))) (λ p. bytes_at s p 6) 6 n at
      ∙ sym (map_walk (word_bytes code) (written_at s code) 6 n at))

  nearest_walk : (n at : ℕ) → rounded_content (sample_bytes code) (nearest_pair code) (pairs_of s n at) ≡ nearest_words s code n at
  unfolding nearest_words
  nearest_walk n at =
      ap flat (map_walk (λ b. rounded_bytes code (nearest_pair code (pair_in b))) (λ p. bytes_at s p 6) 6 n at
      ∙ sym (map_walk (rounded_bytes code) (nearest_at s code) 6 n at))

  count_walk : (n at : ℕ) → rounded_count (nearest_pair code) (pairs_of s n at) ≡ pairs_changed s code n at
  unfolding pairs_changed
  count_walk n at = sum_by_walk (λ b. (nearest_pair code (pair_in b)).changed) (λ p. bytes_at s p 6) 6 n at

-- ## The calls, under the number of a code

module _ (s : List ℕ) (k code n at : ℕ) (is : k ≡ code) where
  -- 11, 12, and what is said of pairs that are there
  pub no_code_said : is_code code ≡ false → Refused 11 (record { 0 = 0 }) ≡ samples_checked s code n at
  unfolding samples_checked
  no_code_said e = rw e

  pub not_there_said : is_code k ≡ true → length s < at + n * 6 → Refused 12 (record { 0 = at }) ≡ samples_checked s code n at
  unfolding samples_checked
  not_there_said i l = let j : is_code code ≡ true = rw is at i in rw (j, lt-leb (at + n * 6) (length s) l)

  pub pairs_said : is_code k ≡ true → at + n * 6 ≤ length s → {pairs : List (List ℕ)} → pairs ≡ pairs_of s n at
      → {c : Check} → c ≡ pairs_refused (write_pair k) pairs at → c ≡ samples_checked s code n at
  unfolding samples_checked
  pairs_said i l {pairs} e said =
      let all : pairs_refused (write_pair k) pairs at ≡ first_of (walk (pair_check s code) 6 n at) =
      ap (λ j. pairs_refused (write_pair j) pairs at) is ∙ ap (λ ps. pairs_refused (write_pair code) ps at) e ∙ refused_walk s code n at in
      let j : is_code code ≡ true = rw is at i in
      let fits : first_of (walk (pair_check s code) 6 n at) ≡ samples_checked s code n at = rw (j, le-leb (at + n * 6) (length s) l) in
      said ∙ all ∙ fits

  module _ (out : List ℕ) where
    -- whether the pairs are there, and the output as long as their words
    pub no_code : is_code code ≡ false → there_and_as_long s code n at out ≡ false
    no_code e = rw e

    pub not_there : is_code k ≡ true → length s < at + n * 6 → there_and_as_long s code n at out ≡ false
    not_there i l = let j : is_code code ≡ true = rw is at i in rw (j, lt-leb (at + n * 6) (length s) l)

    pub as_long : is_code k ≡ true → at + n * 6 ≤ length s → {b : Bool} → eqb (length out) (n * sample_bytes k) ≡ b → there_and_as_long s code n at out ≡ b
    as_long i l {b} e =
        let j : is_code code ≡ true = rw is at i in
        let q : eqb (length out) (n * sample_bytes code) ≡ b = rw is at e in
        rw (j, le-leb (at + n * 6) (length s) l) q

    -- what is written then
    module _ {pairs : List (List ℕ)} (e : pairs ≡ pairs_of s n at) where
      pub written_then : {new : List ℕ} → new ≡ words_content (sample_bytes k) (write_pair k) pairs → new ≡ sample_words s code n at
      written_then w =
          w ∙ ap (λ j. words_content (sample_bytes j) (write_pair j) pairs) is ∙ ap (words_content (sample_bytes code) (write_pair code)) e ∙ words_walk s code n at

      pub rounded_then : {new : List ℕ} → new ≡ rounded_content (sample_bytes k) (nearest_pair k) pairs → new ≡ nearest_words s code n at
      rounded_then w =
          w ∙ ap (λ j. rounded_content (sample_bytes j) (nearest_pair j) pairs) is ∙ ap (rounded_content (sample_bytes code) (nearest_pair code)) e
          ∙ nearest_walk s code n at

      pub counted_then : {c : ℕ} → c ≡ rounded_count (nearest_pair k) pairs → c ≡ pairs_changed s code n at
      counted_then w =
          w ∙ ap (λ j. rounded_count (nearest_pair j) pairs) is ∙ ap (rounded_count (nearest_pair code)) e ∙ count_walk s code n at

module _ (s : List ℕ) (code n at : ℕ) (out : List ℕ) where
  pub kept : there_and_as_long s code n at out ≡ false → out ≡ samples_written s code n at out
  unfolding samples_written
  kept e = rw e

  pub put : there_and_as_long s code n at out ≡ true → {new : List ℕ} → new ≡ sample_words s code n at → new ≡ samples_written s code n at out
  unfolding samples_written
  put e w = rw e w

  pub nearest_kept : there_and_as_long s code n at out ≡ false → (0 ≡ nearest_samples_counted s code n at out) × (out ≡ nearest_samples_written s code n at out)
  unfolding nearest_samples_written nearest_samples_counted
  nearest_kept e = (rw e, rw e)

  pub nearest_put : there_and_as_long s code n at out ≡ true → {c : ℕ} {new : List ℕ} → c ≡ pairs_changed s code n at → new ≡ nearest_words s code n at
      → (c ≡ nearest_samples_counted s code n at out) × (new ≡ nearest_samples_written s code n at out)
  unfolding nearest_samples_written nearest_samples_counted
  nearest_put e count w = (rw e count, rw e w)
