-- The samples of a trace as the code writes them: the pairs of words that stand in a row, and what fits. Assumes nothing.
use Rattle.std.proofs.Common.{◌≡◌, ℕ, ◌+◌, ◌-◌, ◌*◌, ◌/◌, ◌<◌, ◌≤◌, true, false, List, [], ◌∷◌, length, get_or, take, drop, sym, refl, ap, ◌∙◌, leb, eqb, arith}
use Rattle.std.specs.Simd.{first_chunks}
use borrow.Author.Tests.{le-leb, eq-eqb}
use Rattle.numbers.specs.Walk.{walk, flat, bytes_at}
use Rattle.numbers.proofs.WalkLaws.{walk_same, map_walk, flat_length, bytes_between}
use Rattle.numbers.proofs.ChunkLaws.{parts_walk}
use Rattle.formats.specs.Codes.{is_code, sample_bytes}
use Rattle.formats.specs.Value.{exact_value}
use Rattle.value.specs.Pair.{pair_of}
use Rattle.value.specs.declared.Pair.{Pair}
use Rattle.read_samples.specs.Samples.{pair_content, sample_copied, sample_pairs, samples_fit, samples_read}
use Rattle.read_samples.specs.Parts.{pairs_content}

-- ## Words in a row

module _ (s : List ℕ) (code n at e : ℕ) (q : e ≡ at + n * sample_bytes code) (l : e ≤ length s) where
  -- the part of the reel that they are
  words : List ℕ
  words = take (e - at) (drop at s)

  -- what each word of a walk gives is the sample at its place
  walked : {W : Type 0} (pair : W → Pair) (word : ℕ → W) → ((p : ℕ) → pair_content (pair (word p)) ≡ sample_copied s code p)
      → pairs_content pair (walk word (sample_bytes code) n at) ≡ sample_pairs s code n at
  unfolding sample_pairs
  walked pair word h =
      let w = sample_bytes code in
      ap flat (map_walk (λ x. pair_content (pair x)) word w n at
      ∙ walk_same (λ p. pair_content (pair (word p))) (sample_copied s code) w w n at at (λ j k. h (at + j * w))
      ∙ sym (map_walk (sample_copied s code) (λ p. p) w n at))

  -- words of several bytes
  pub words_read : (w : ℕ) (pair : List ℕ → Pair) → 0 < w → w ≡ sample_bytes code → ((p : ℕ) → pair_content (pair (bytes_at s p w)) ≡ sample_copied s code p)
      → let t = take (e - at) (drop at s) in pairs_content pair (first_chunks w (length t / w) t) ≡ sample_pairs s code n at
  words_read w pair z is h =
      let k : e ≡ at + n * w = q ∙ ap (λ x. at + n * x) (sym is) in
      ap (pairs_content pair) (parts_walk w n s at e z k l)
      ∙ ap (λ x. pairs_content pair (walk (λ p. bytes_at s p w) x n at)) is
      ∙ walked pair (λ p. bytes_at s p w) h

  -- words of one byte
  pub bytes_read : (pair : ℕ → Pair) → 1 ≡ sample_bytes code → ((p : ℕ) → pair_content (pair (get_or s p 0)) ≡ sample_copied s code p)
      → pairs_content pair (take (e - at) (drop at s)) ≡ sample_pairs s code n at
  unfolding bytes_at
  bytes_read pair is h =
      let k : e ≡ at + n = q ∙ ap (λ x. at + n * x) (sym is) ∙ omega arith in
      ap (pairs_content pair) (bytes_between s at e n l k)
      ∙ ap (λ x. pairs_content pair (walk (λ p. get_or s p 0) x n at)) is
      ∙ walked pair (λ p. get_or s p 0) h

-- ## One word

-- a word of two bytes or one, with 00 behind it, has the value of the four bytes at its place
pub two_bytes : (s : List ℕ) (p : ℕ)
    → pair_content (pair_of (exact_value 3 (get_or (bytes_at s p 2) 0 0 ∷ get_or (bytes_at s p 2) 1 0 ∷ 0 ∷ 0 ∷ []))) ≡ sample_copied s 3 p
unfolding bytes_at
two_bytes s p = refl

pub one_byte : (s : List ℕ) (p : ℕ) → pair_content (pair_of (exact_value 8 (get_or s p 0 ∷ 0 ∷ 0 ∷ 0 ∷ []))) ≡ sample_copied s 8 p
unfolding bytes_at
one_byte s p = refl

-- ## The call, under the number of a code

module _ (s : List ℕ) (k code n at : ℕ) (is : k ≡ code) (out : List ℕ) where
  kept : samples_fit s code n at out ≡ false → out ≡ samples_read s code n at out
  unfolding samples_read
  kept e = rw e

  -- the output stays where the code is none, the words aren't there or it has another length
  pub no_code : is_code code ≡ false → out ≡ samples_read s code n at out
  no_code e = kept (rw e)

  pub not_there : is_code k ≡ true → leb (at + n * sample_bytes k) (length s) ≡ false → out ≡ samples_read s code n at out
  not_there i l =
      let j : is_code code ≡ true = rw is at i in
      let m : leb (at + n * sample_bytes code) (length s) ≡ false = rw is at l in
      kept (rw (j, m))

  pub other_length : is_code k ≡ true → leb (at + n * sample_bytes k) (length s) ≡ true → eqb (length out) (n * 6) ≡ false → out ≡ samples_read s code n at out
  other_length i l e =
      let j : is_code code ≡ true = rw is at i in
      let m : leb (at + n * sample_bytes code) (length s) ≡ true = rw is at l in
      kept (rw (j, m, e))

  -- and is the samples else
  pub fit_read : is_code k ≡ true → leb (at + n * sample_bytes k) (length s) ≡ true → eqb (length out) (n * 6) ≡ true
      → {new : List ℕ} → new ≡ sample_pairs s k n at → new ≡ samples_read s code n at out
  unfolding samples_read
  fit_read i l e w =
      let j : is_code code ≡ true = rw is at i in
      let m : leb (at + n * sample_bytes code) (length s) ≡ true = rw is at l in
      rw (j, m, e) (w ∙ ap (λ x. sample_pairs s x n at) is)

-- ## For the crates above

pub size_samples : (s : List ℕ) (code n at : ℕ) → length (sample_pairs s code n at) ≡ n * 6
unfolding sample_pairs
size_samples s code n at = flat_length (sample_copied s code) (λ p. p) 6 (λ p. refl) (sample_bytes code) n at

-- samples that fit are read
pub samples_read_lem : (s : List ℕ) (code n at : ℕ) (out : List ℕ) → is_code code ≡ true → at + n * sample_bytes code ≤ length s → length out ≡ n * 6
    → samples_read s code n at out ≡ sample_pairs s code n at
unfolding samples_read
samples_read_lem s code n at out i w o = rw (i, le-leb (at + n * sample_bytes code) (length s) w, eq-eqb (length out) (n * 6) o)
