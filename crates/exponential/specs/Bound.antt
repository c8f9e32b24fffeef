-- What document 01 asks of the exponential, as one statement about exp_of. Definitions only; proofs/Bound proves it.
use Rattle.std.specs.Prelude.{◌≡◌, ℕ, ◌*◌, ◌^◌, ◌<◌, Bool, true, false, T, ℤ, pos, ◌+ℤ◌, ◌*ℤ◌, neg_ℤ, Float}
use Rattle.std.specs.Float.{nan, inf, fin, binary64}
use Rattle.std.specs.Float.Ieee.{fits, neg, ne, up, down}
use Rattle.std.specs.Float.Ieee.Exact.{HasValue}
use Rattle.double.specs.Operators.{◌≺◌}
use Rattle.double.specs.Numbers.{#0, #1, #708, #709}
use Rattle.double.specs.Fields.{Units}
use Rattle.rounding.specs.Within.{Within}
use Rattle.exponential.specs.Sum.{third_num, third_den, sum_num, sum_den}
use Rattle.exponential.specs.Steps.{exp_of}

-- n, negative where s is true
abbrev pub with_sign : Bool → ℕ → ℤ
with_sign false n = pos n
with_sign true n = neg_ℤ (pos n)

-- 01: "with j the floor of x/S(1/3) and r = x - j·S(1/3)". Here x is a / b with the sign s, and r is p / (third_den·b):
-- x = j·S(1/3) + r, all over third_den·b, with r from 0 up to S(1/3).
pub record Parted (s : Bool) (a b : ℕ) (j : ℤ) (p : ℕ) : Type 0 where
  pub whole : with_sign s (a * third_den) ≡ j *ℤ pos (third_num * b) +ℤ pos p
  pub below : p < third_num * b

-- 01: "the result is within 2^-44 relative of 2^j times the sum of r^i/i!, i = 0..39", of a result y for x = a / b with the sign s.
-- 2^j is up j / down j, and y is units / 2^1074; both sides are multiplied by 2^44 and by the denominators.
pub record Near (s : Bool) (a b : ℕ) (y : Float) : Type 0 where
  pub j : ℤ
  pub p : ℕ
  pub parted : Parted s a b j p
  pub units : ℕ
  pub value : Units y units
  pub distance :
      Within (2 ^ 44 * (units * (down j * sum_den (third_den * b)))) (2 ^ 44 * (up j * sum_num p (third_den * b) * 2 ^ 1074))
      (up j * sum_num p (third_den * b) * 2 ^ 1074)

-- a double from -708 to 709
pub record Between (x : Float) : Type 0 where
  pub holds : T (fits binary64 x)
  pub number : ne x x ≡ false
  pub not-over : (#709 ≺ x) ≡ false
  pub not-under : (x ≺ neg #708) ≡ false

pub record Promise : Type 0 where
  -- 01: "above 709 gives +infinity"
  pub above_709 : (x : Float) → (#709 ≺ x) ≡ true → exp_of x ≡ inf false
  -- 01: "below -708 gives +0"
  pub below_708 : (x : Float) → (x ≺ neg #708) ≡ true → exp_of x ≡ #0
  -- 01: "NaN gives NaN"
  pub of_nan : exp_of nan ≡ nan
  -- 01: "exp 0 is 1", of both zeros
  pub of_zero : (s : Bool) → exp_of (fin s 0 (pos 0)) ≡ #1
  -- 01: "Between", for every fraction a / b that x is
  pub between : (x : Float) → Between x → (s : Bool) (a b : ℕ) → 0 < b → HasValue x s a b → Near s a b (exp_of x)
