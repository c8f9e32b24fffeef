-- The exact number beside the test of the exponential cone's dual. Definitions only. The test is expcone's (expcone/specs/feasible/Dual).
use Rattle.std.specs.Prelude.{Float}
use Rattle.series.specs.Series.{Signed}
use Rattle.series.specs.change.SignedArithmetic.{times, minus, AboveZero, BelowZero}
use Rattle.certain.specs.Coordinates.{exact_of, l_of_quotient}

-- 02, Order 12: "z2 - z1 - z1·L(-z3/z1)"; where it is asked for, z3 is above 0 and z1 below, so that -z3/z1 is |z3|/|z1|
unfoldable pub number : Float → Float → Float → Signed
number z1 z2 z3 = minus (minus (exact_of z2) (exact_of z1)) (times (exact_of z1) (l_of_quotient z3 z1))

-- 02, Order 12: "the exact point is inside. .. Dual: z2 - z1 - z1·L(-z3/z1) is above zero"; the dual cone of 000 has z1 below and z3 above
-- zero
pub record Inside (z1 z2 z3 : Float) : Type 0 where
  pub first_below : BelowZero (exact_of z1)
  pub third-above : AboveZero (exact_of z3)
  pub number-above : AboveZero (number z1 z2 z3)
