-- What a record holds of a group of scaled values, spelled out. Document 02 (CR 2): "The record holds, for each of the two groups, the
-- smallest power of ten from -4 to 4 at which all its numbers are whole and fit 32 signed bits, as scalar -10000 to 10000, power 0 as 1."
use Rattle.std.specs.Prelude.{◌≡◌, true, false, List, map, ℕ, suc, ◌-◌, ◌^◌, ◌<◌, length, get_or, ℤ, pos, ◌*ℤ◌}
use Rattle.numbers.specs.Terms.{All}
use Rattle.numbers.specs.SignMagnitude.{in_bits}
use Rattle.scalars.specs.Scalar.{powers, power_of, scalar_of, scaled_by, serves}
use Rattle.reel.specs.Layout.{Field, elevation_scalar, coordinate_scalar, field_number}
use Rattle.reel.specs.Meaning.{elevation_fields, coordinate_fields}
use Rattle.look_up.specs.LookUp.{header_number}
use Rattle.demands.specs.ValidRecord.{header_start}
use Rattle.demands.specs.Results.{scaled_value}

-- Some number of a group, number j counted from 0, times 10 ^ d leaves 32 signed bits.
abbrev pub Leaves : List ℤ → ℕ → Type 0
Leaves ns d = (j : ℕ) × (j < length ns) × (in_bits 32 (get_or ns j (pos 0) *ℤ pos (10 ^ d)) ≡ false)

-- The scalar z and the numbers ns are what a record holds of the scaled values vs.
pub record SmallestPower (vs : List ℤ) (z : ℤ) (ns : List ℤ) : Type 0 where
  -- z is the scalar of a power, counted from 0 to 8 for the powers of ten from -4 to 4.
  pub power : ℕ
  pub among : power < powers
  pub scalar : z ≡ scalar_of power
  -- At it the numbers are whole, each times 10 ^ power being its value, and they fit 32 signed bits.
  pub values : scaled_by power ns ≡ vs
  pub fit : All (λ n. in_bits 32 n ≡ true) ns
  -- At each smaller power q, where each number is 10 ^ (power - q) times as large, some number leaves 32 signed bits.
  pub smaller : (q : ℕ) → q < power → Leaves ns (power - q)

-- The scaled values of a group of fields of the reel's trace k, counted from 0, by its bare numbers.
abbrev pub group_values : List ℕ → ℕ → List Field → Field → List ℤ
group_values s k fields scalar = map (scaled_value s k scalar) fields

-- What the record r of the reel s holds of a group of fields of trace k.
abbrev pub GroupHeld : List ℕ → List ℕ → ℕ → List Field → Field → Type 0
GroupHeld s r k fields scalar =
    SmallestPower (group_values s k fields scalar) (field_number r (header_start r k) scalar) (map (field_number r (header_start r k)) fields)

-- Both groups of trace k.
pub record GroupsHeld (s r : List ℕ) (k : ℕ) : Type 0 where
  pub elevations : GroupHeld s r k elevation_fields elevation_scalar
  pub coordinates : GroupHeld s r k coordinate_fields coordinate_scalar

-- The powers of the scalars of the reel's trace k are two of the nine, and serve its groups: at them all numbers are whole and fit 32 signed
-- bits.
pub record OwnServes (s : List ℕ) (k : ℕ) : Type 0 where
  pub elevations_among : power_of (header_number s (suc k) elevation_scalar) < powers
  pub coordinates_among : power_of (header_number s (suc k) coordinate_scalar) < powers
  pub elevations : serves (group_values s k elevation_fields elevation_scalar) (power_of (header_number s (suc k) elevation_scalar)) ≡ true
  pub coordinates : serves (group_values s k coordinate_fields coordinate_scalar) (power_of (header_number s (suc k) coordinate_scalar)) ≡ true
