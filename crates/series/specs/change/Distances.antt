-- How far two signed fractions are apart, crosswise. Definitions only.
use Rattle.std.specs.Prelude.{ℕ, ◌+◌, ◌*◌, ◌≤◌}
use Rattle.series.specs.Series.{Signed}

-- y is at most x + e/k, both sides multiplied by k and both denominators
abbrev pub AtMostBy : ℕ → ℕ → Signed → Signed → Type 0
AtMostBy k e x y = k * (y.plus * x.over + x.less * y.over) ≤ k * (x.plus * y.over + y.less * x.over) + e * (x.over * y.over)

-- x and y are at most 1/k apart
pub record Apart (k : ℕ) (x y : Signed) : Type 0 where
  pub ahead : AtMostBy k 1 x y
  pub behind : AtMostBy k 1 y x
