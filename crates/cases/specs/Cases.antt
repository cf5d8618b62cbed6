-- What is known of an input that is cut short, and how a run over cases ends.
use Rattle.std.specs.Prelude.{◌≡◌, ℕ, ◌<◌, ◌^◌, ◌-◌, ◌⊎◌, List, length, Option, None, Some, ⊤, Result, Ok, Err}
use Rattle.std.specs.Int.{w32, from_be_bytes}
use Rattle.std.specs.Io.KnownBytes.{Consumes, IsAtEnd}
use Rattle.std.specs.declared.io.Error.{Error}
use Rattle.cases.specs.declared.Stop.{Stop}
use Rattle.cases.specs.declared.Stop.TheVariants.{AtEnd, BadCase, Failed}

-- The known bytes are fewer than n.
abbrev pub HasFewer : Option (List ℕ) → ℕ → Type 0
HasFewer None n = ⊤
HasFewer (Some bytes) n = length bytes < n

-- There are known bytes, but fewer than n.
abbrev pub IsCutShort : Option (List ℕ) → ℕ → Type 0
IsCutShort None n = ⊤
IsCutShort (Some bytes) n = (0 < length bytes) × (length bytes < n)

-- The known bytes begin with the four of n, and lose them.
abbrev pub ConsumesLength : Option (List ℕ) → Option (List ℕ) → ℕ → Type 0
ConsumesLength old new n = (bytes : List ℕ) × (length bytes ≡ 4) × Consumes old new bytes × (n ≡ from_be_bytes w32 bytes)

-- What a run answers that a case stops: nothing is said of what is no case, since that is printed.
abbrev pub Stops : Stop → Result (Unit {0}) Error → Type 0
Stops AtEnd result = result ≡ Ok tt
Stops BadCase result = ⊤
Stops (Failed e) result = result ≡ Err e

-- A run ends behind n cases: the next one stops it, or no run takes so many.
abbrev pub Follows : {F : Type 0} → (F → Result (Unit {0}) Stop → F → Type 0) → ℕ → F → Result (Unit {0}) Error → Type 0
Follows {F} step n last result = ((stop : Stop) × (after : F) × step last (Err stop) after × Stops stop result) ⊎ ((n ≡ 2 ^ 64 - 1) × (result ≡ Ok tt))

-- A case says that the run is at its end only where the input, with these known bytes left before the case, has ended.
abbrev pub EndsWithInput : Option (List ℕ) → Result (Unit {0}) Stop → Type 0
EndsWithInput known answer = answer ≡ Err AtEnd → IsAtEnd known
