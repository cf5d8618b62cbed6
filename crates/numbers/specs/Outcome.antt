-- The complete outcome of a call in document 01's terms: what it says, and each byte that it hands out or leaves in its output.
use Rattle.std.specs.Prelude.{ℕ, List}

-- Taken, with the values returned in the document's order; or refused, with the number of the cause and what stands beside it in
-- the table.
pub data Said : Type 0 where
  taken : List ℕ → Said
  refused : ℕ → ℕ → Said

pub record Outcome : Type 0 where
  pub said : Said
  pub bytes : List ℕ
