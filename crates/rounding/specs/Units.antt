-- A finite value that is not negative, as a whole number of its format's smallest value: the units of every law on rounding. Definitions
-- only.
use Rattle.std.specs.Prelude.{ℕ, ◌*◌, ◌/◌, ◌^◌, false, Float}
use Rattle.std.specs.Float.{Format}
use Rattle.std.specs.Float.Ieee.{low}
use Rattle.std.specs.Float.Ieee.Exact.{HasValue}
use Rattle.std.specs.Float.Ieee.Positive.{num, den}

-- how many units x is, cut to a whole number; 2 ^ low f of them are 1
abbrev pub units_of : Format → Float → ℕ
units_of f x = num x * 2 ^ low f / den x

-- x is exactly g units
abbrev pub IsUnits : Format → Float → ℕ → Type 0
IsUnits f x g = HasValue x false g (2 ^ low f)
