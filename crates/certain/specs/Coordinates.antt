-- A coordinate as the exact fraction that it is, L of an exact quotient of two, and the sizes that Order 12 speaks of. Definitions only.
use Rattle.std.specs.Prelude.{ℕ, ◌*◌, ◌^◌, ◌≤◌, ◌<◌, cond, T, Float}
use Rattle.std.specs.Float.{nan, inf, fin, binary64}
use Rattle.std.specs.Float.Ieee.{fits, up, down}
use Rattle.std.specs.Float.Ieee.Positive.{num, den}
use Rattle.std.specs.Float.Ieee.Scale.{finite}
use Rattle.series.specs.Series.{Signed, lOf}

-- A finite double as the fraction that it is; no formula reads it at a NaN or an infinity
abbrev pub exact_of : Float → Signed
exact_of nan = record { plus = 0; less = 0; over = 1 }
exact_of (inf s) = record { plus = 0; less = 0; over = 1 }
exact_of (fin s m e) = record { plus = cond s 0 (m * up e); less = cond s (m * up e) 0; over = down e }

-- 02, Order 12: "L is taken on the exact fraction". L(|x|/|y|), for x and y other than 0: |x|/|y| is num x · den y over den x · num y
abbrev pub l_of_quotient : Float → Float → Signed
l_of_quotient x y = lOf (num x * den y) (den x * num y)

-- 02, Order 12: "zero or between 2^-500 and 2^500 in size", both ends included. |x| is num x / den x
abbrev pub largest : ℕ
largest = 2 ^ 500

pub record InRange (x : Float) : Type 0 where
  pub finite_number : T (finite x)
  pub most : num x ≤ largest * den x
  pub least : 0 < num x → den x ≤ largest * num x

-- "if all three coordinates are zero or between 2^-500 and 2^500 in size". `Float` holds the values of every format; those of a call are
-- doubles
pub record Point (x y z : Float) : Type 0 where
  pub first_double : T (fits binary64 x)
  pub second_double : T (fits binary64 y)
  pub third_double : T (fits binary64 z)
  pub first : InRange x
  pub second : InRange y
  pub third : InRange z
