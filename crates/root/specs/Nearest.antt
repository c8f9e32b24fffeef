-- What IEEE 754 asks of a square root, by squares of whole numbers. Definitions only, and the statement that sqrt_of is it.
use Rattle.std.specs.Prelude.{ℕ, ◌+◌, ◌*◌, ◌^◌, ◌<◌, ◌≡◌, true, false, T, Float}
use Rattle.std.specs.Float.{nan, inf, binary64}
use Rattle.std.specs.Float.Ieee.{fits, of_bits}
use Rattle.double.specs.Fields.{Sized, Units}
use Rattle.root.specs.Steps.{sqrt_of}

-- 01: "IEEE 754, nearest, ties to even, stated by comparing whole-number squares"
-- r is the double nearest to the root of x, and no other is as near: for each other double y the root lies strictly on r's side of the
-- middle of y and r, (y + r)² < 4 x for a smaller y, and 4 x < (r + y)² for a larger. In units of the smallest double x is n, r is v and y
-- is w, and a unit times a unit is 2^-1074 units.
-- There are no real numbers here, so "the root lies below the middle" is said with both sides squared. Ties to even asks for nothing: the
-- middle of two neighbours is
-- an odd number of half places, 54 digits long, and its square is longer than any double; so no root is a middle, and "strictly" holds
-- throughout. y runs over the finite doubles without sign: a negative one is farther from the root than +0 is, and no root is near an
-- infinity.
pub record IsSqrt (x r : Float) : Type 0 where
  pub n : ℕ
  pub v : ℕ
  pub x-is : Units x n
  pub r-is : Units r v
  pub over : (y : Float) (w : ℕ) → T (fits binary64 y) → Units y w → w < v → (w + v) * (w + v) < 4 * (n * 2 ^ 1074)
  pub under : (y : Float) (w : ℕ) → T (fits binary64 y) → Units y w → v < w → 4 * (n * 2 ^ 1074) < (v + w) * (v + w)

-- The theorem, for every double: a NaN, an infinity, a zero, a negative or a positive number.
pub record SquareRoot : Type 0 where
  pub nearest : (x : Float) (n : ℕ) → T (fits binary64 x) → Units x n → 0 < n → IsSqrt x (sqrt_of x)
  -- only one double is the nearest
  pub only : (x r : Float) (n : ℕ) → T (fits binary64 x) → T (fits binary64 r) → Units x n → 0 < n → IsSqrt x r → r ≡ sqrt_of x
  -- 01: "-0 gives -0, +infinity itself, NaN or a negative number NaN"
  pub minus-zero : sqrt_of (of_bits binary64 0x8000_0000_0000_0000) ≡ of_bits binary64 0x8000_0000_0000_0000
  pub plus_zero : sqrt_of (of_bits binary64 0) ≡ of_bits binary64 0
  pub infinity : sqrt_of (inf false) ≡ inf false
  pub no_number : sqrt_of nan ≡ nan
  pub negative : (x : Float) (n : ℕ) → T (fits binary64 x) → Sized x true n → 0 < n → sqrt_of x ≡ nan
  pub minus_infinity : sqrt_of (inf true) ≡ nan
