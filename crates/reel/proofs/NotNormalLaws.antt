-- How many words are not normal: trace by trace, and never more than there are words. Assumes nothing.
use mathlib.Core.Path.{◌≡◌}
use mathlib.Core.Bool.{Bool, true, false, not, ◌&&◌}
use mathlib.Core.List.{List}
use Prim.Native.Nat.{ℕ, ◌+◌, ◌-◌, ◌*◌, ◌≤◌, ◌<◌}
use native.Mathlib.Nat.{mul-one, le_trans, mul-le-mul_left}
use native.Mathlib.Omega.{arith}
use lib.Dec.{eqb}
use lib.ListN.{length}
use Rattle.numbers.specs.Walk.{pick, bytes_at}
use Rattle.formats.specs.Value.{word_number}
use Rattle.formats.proofs.CodeLaws.{width_low}
use Rattle.numbers.proofs.WalkLaws.{sum_none, sum_more, sum_most}
use Rattle.formats.specs.Words.{is_normal}
use Rattle.sample.specs.Reading.{not_normal}
use Rattle.reel.specs.Layout.{first_trace, trace_header, stride}
use Rattle.formats.specs.Codes.{word_length, sample_bytes}
use Rattle.reel.specs.NotNormal.{not_normal_in, not_normal_among}

one_most : (code : ℕ) (w : List ℕ) → not_normal code w ≤ 1
one_most code w = go (eqb code 1 && not (is_normal (word_number 1 w)))
  where
    go : (b : Bool) → pick b 1 0 ≤ 1
    go true = omega arith
    go false = omega arith

module _ (s : List ℕ) (code n : ℕ) where
  pub in_most : (at : ℕ) → not_normal_in s code n at ≤ n
  unfolding not_normal_in
  in_most at = rw (mul-one n) at (sum_most (λ p. not_normal code (bytes_at s p word_length)) (sample_bytes code) 1 (λ p. one_most code (bytes_at s p word_length)) n at)

  module _ (w : ℕ) where
    pub among_none : (t at : ℕ) → t ≤ 0 → not_normal_among s code n w t at ≡ 0
    unfolding not_normal_among
    among_none t at h = sum_none (λ p. not_normal_in s code n (p + trace_header)) w t at h

    pub among_more : (t at : ℕ) → 0 < t → not_normal_among s code n w t at ≡ not_normal_in s code n (at + trace_header) + not_normal_among s code n w (t - 1) (at + w)
    unfolding not_normal_among
    among_more t at h = sum_more (λ p. not_normal_in s code n (p + trace_header)) w t at h

    pub among_most : (t at : ℕ) → not_normal_among s code n w t at ≤ t * n
    unfolding not_normal_among
    among_most t at = sum_most (λ p. not_normal_in s code n (p + trace_header)) w n (λ p. in_most (p + trace_header)) t at

-- and no more than the reel has bytes
pub among_room : (s : List ℕ) (code n w t at : ℕ) → stride n (sample_bytes code) ≤ w → first_trace + t * w ≤ length s → not_normal_among s code n w t at ≤ length s
among_room s code n w t at e room =
    le_trans (among_most s code n w t at) (le_trans (mul-le-mul_left t few) (omega (arith, room)))
  where
    few : n ≤ w
    few = let l : n * 1 ≤ n * sample_bytes code = mul-le-mul_left n (width_low code) in omega (arith, e, l, mul-one n)
