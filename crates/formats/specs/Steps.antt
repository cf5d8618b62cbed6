-- What the functions that place a value in a format ask of the format, and hand to each other.
use Rattle.std.specs.Prelude.{ℕ, ◌+◌, ◌-◌, ◌*◌, ◌^◌, ◌<◌, ◌≤◌, ◌≡◌, false}
use Rattle.formats.specs.Codes.{word_length}
use Rattle.formats.specs.declared.Format.{Format}

-- A format whose fractions a word holds, and whose powers are small.
pub record Sound (x : Format) : Type 0 where
  pub steps : 0 < x.digit
  pub few : x.fraction < 8 * word_length
  pub some : 0 < x.characteristics
  pub near : x.base + x.digit * x.characteristics < 2 ^ 16

-- A format of sign and magnitude whose words have w bits, the characteristic above the y lowest.
pub record Float (x : Format) (w y : ℕ) : Type 0 where
  pub sound : Sound x
  pub even : x.more ≡ false
  pub some : 0 < w
  pub short : w ≤ 8 * word_length
  pub low : y < 8 * word_length
  pub room : (x.characteristics - 1) * 2 ^ y + 2 ^ x.fraction ≤ 2 ^ (w - 1)

-- n is the least number of bits that holds o, where 2 ^ n itself is held too if e is 1.
pub record Length (e o n : ℕ) : Type 0 where
  pub holds : o < 2 ^ n + e
  pub least : 2 ^ n + e ≤ 2 * o

-- c is the least number of steps r that lifts `room` to n.
pub record Lowest (n room r c : ℕ) : Type 0 where
  pub enough : n ≤ room + r * c
  pub least : (i : ℕ) → i < c → room + r * i < n
