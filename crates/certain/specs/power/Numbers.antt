-- Sums of exact numbers, L of one coordinate and of a square. Definitions only; the rest of the exact numbers is specs/Coordinates' and
-- series' change/SignedArithmetic's.
use Rattle.std.specs.Prelude.{◌+◌, ◌*◌, Float}
use Rattle.std.specs.Float.Ieee.Positive.{num, den}
use Rattle.series.specs.Series.{Signed, lOf}

-- x + y
abbrev pub sum : Signed → Signed → Signed
sum x y = record {
  plus = x.plus * y.over + y.plus * x.over;
  less = x.less * y.over + y.less * x.over;
  over = x.over * y.over;
}

abbrev pub two : Signed
two = record { plus = 2; less = 0; over = 1 }

abbrev pub one : Signed
one = record { plus = 1; less = 0; over = 1 }

-- L(|x|) and L(x²), for x other than 0: |x| is num x / den x
abbrev pub l_of_one : Float → Signed
l_of_one x = lOf (num x) (den x)

abbrev pub l_of_square : Float → Signed
l_of_square x = lOf (num x * num x) (den x * den x)
