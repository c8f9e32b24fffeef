-- Products and differences of signed fractions, and their sign. Definitions only.
use Rattle.std.specs.Prelude.{◌+◌, ◌*◌, ◌<◌}
use Rattle.series.specs.Series.{Signed}

-- x · y and x - y
abbrev pub times : Signed → Signed → Signed
times x y = record {
  plus = x.plus * y.plus + x.less * y.less;
  less = x.plus * y.less + x.less * y.plus;
  over = x.over * y.over;
}

abbrev pub minus : Signed → Signed → Signed
minus x y = record {
  plus = x.plus * y.over + y.less * x.over;
  less = x.less * y.over + y.plus * x.over;
  over = x.over * y.over;
}

abbrev pub AboveZero : Signed → Type 0
AboveZero x = x.less < x.plus

abbrev pub BelowZero : Signed → Type 0
BelowZero x = x.plus < x.less
