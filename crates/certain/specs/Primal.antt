-- The exact number beside the exponential cone's test. Definitions only. The test is expcone's (expcone/specs/feasible/Primal).
use Rattle.std.specs.Prelude.{Float}
use Rattle.series.specs.Series.{Signed}
use Rattle.series.specs.change.SignedArithmetic.{times, minus, AboveZero}
use Rattle.certain.specs.Coordinates.{exact_of, l_of_quotient}

-- 02, Order 12: "s2·L(s3/s2) - s1"; where it is asked for, s2 and s3 are above 0
unfoldable pub number : Float → Float → Float → Signed
number s1 s2 s3 = minus (times (exact_of s2) (l_of_quotient s3 s2)) (exact_of s1)

-- 02, Order 12: "the exact point is inside. Primal: s2·L(s3/s2) - s1 is above zero"; the cone of 000 has s2 and s3 above zero
pub record Inside (s1 s2 s3 : Float) : Type 0 where
  pub second_above : AboveZero (exact_of s2)
  pub third-above : AboveZero (exact_of s3)
  pub number-above : AboveZero (number s1 s2 s3)
