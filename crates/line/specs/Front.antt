-- A text at the front of an array of 96 bytes.
use Rattle.std.specs.Prelude.{◌≡◌, ℕ, ◌-◌, ◌≤◌, List, length, drop, replicate}

-- The first n bytes of an array of 96 are a text, and its rest is 00.
pub record AtFront (bytes : List ℕ) (n : ℕ) : Type 0 where
  pub size : length bytes ≡ 96
  pub fits : n ≤ 96
  pub rest : drop n bytes ≡ replicate (96 - n) 0
