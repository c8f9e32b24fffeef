-- That the exponential's sum and the logarithm's L undo one another, as one statement. Definitions only; proofs/inverse/Inverse proves it.
use Rattle.std.specs.Prelude.{ℕ, suc, ◌+◌, ◌-◌, ◌*◌, ◌^◌, ◌<◌, ◌≤◌, Bool, cond, ℤ}
use Rattle.std.specs.Float.Ieee.{up, down}
use Rattle.series.specs.Series.{Signed, lOf}
use Rattle.exponential.specs.Sum.{third_den, sum_num, sum_den}
use Rattle.exponential.specs.Bound.{Parted}

-- x is at most y, crosswise
abbrev pub NotAbove : Signed → Signed → Type 0
NotAbove x y = x.plus * y.over + y.less * x.over ≤ y.plus * x.over + x.less * y.over

-- a/b with the sign s
abbrev pub signed : Bool → ℕ → ℕ → Signed
signed s a b = record { plus = cond s 0 a; less = cond s a 0; over = b }

-- 2^100 - 1
unfoldable pub parts : ℕ
parts = 2 ^ 100 - 1

-- E(y) is document 01's 2^j times the sum of r^i/i!, at y = j·S(1/3) + r. For every y = a/b and every x = c/d above 0:
-- y up to L(x) gives E(y) up to x, exactly; y from L(x) on gives E(y) from x on, but for 2^-100 of x.
pub record Undone : Type 0 where
  pub not-above :
      (s : Bool) (a b : ℕ) (j : ℤ) (p c d : ℕ) → 0 < b → 0 < c → 0 < d → Parted s a b j p → NotAbove (signed s a b) (lOf c d)
      → up j * sum_num p (third_den * b) * d ≤ c * (down j * sum_den (third_den * b))
  pub not-below :
      (s : Bool) (a b : ℕ) (j : ℤ) (p c d : ℕ) → 0 < b → 0 < c → 0 < d → Parted s a b j p → NotAbove (lOf c d) (signed s a b)
      → parts * (c * (down j * sum_den (third_den * b))) ≤ suc parts * (up j * sum_num p (third_den * b) * d)

-- y is at least x + e/k, both sides multiplied by k and both denominators
abbrev pub RisesBy : ℕ → ℕ → Signed → Signed → Type 0
RisesBy k e x y = k * (x.plus * y.over + y.less * x.over) + e * (x.over * y.over) ≤ k * (y.plus * x.over + x.less * y.over)
