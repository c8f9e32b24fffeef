-- The value of a finite number as a difference of two whole numbers of its format's smallest value, and how near one rounded operation
-- comes. Definitions only. A sum of differences is a difference again, so that no law has to go by signs.
use Rattle.std.specs.Prelude.{ℕ, ◌+◌, ◌-◌, ◌*◌, ◌^◌, Bool, cond, Float}
use Rattle.std.specs.Float.{Format}
use Rattle.std.specs.Float.Ieee.{prec, low}
use Rattle.std.specs.Float.Ieee.Exact.{HasValue}
use Rattle.rounding.specs.Within.{Within}

-- x has the sign s and is n units in size: as a difference it is above - below, one of them 0
abbrev pub above : Bool → ℕ → ℕ
above s n = cond s 0 n

abbrev pub below : Bool → ℕ → ℕ
below s n = cond s n 0

-- x is finite, has the sign s, and is n units in size
abbrev pub InUnits : Format → Float → Bool → ℕ → Type 0
InUnits f x s n = HasValue x s n (2 ^ low f)

-- 2^-p of the exact value, and half a unit: in units, both times 2^p. What is subnormal is covered by the half unit.
-- r is u units in size and has the sign s; exactly it would be a/c.
pub record Rounded (f : Format) (r : Float) (s : Bool) (a c : ℕ) : Type 0 where
  pub units : ℕ
  pub is : InUnits f r s units
  pub near : Within (units * c * 2 ^ prec f) (a * 2 ^ low f * 2 ^ prec f) (a * 2 ^ low f + 2 ^ (prec f - 1) * c)
