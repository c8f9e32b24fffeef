-- Exact sums over the places of lists: of weighed logarithms, of exponents and of squares. Definitions only.
use Rattle.std.specs.Prelude.{ℕ, zero, suc, ◌+◌, ◌*◌, List, Float}
use Rattle.std.specs.Float.Ieee.Positive.{num, den}
use Rattle.double.specs.Operators.{at}
use Rattle.series.specs.Series.{Signed}
use Rattle.series.specs.change.SignedArithmetic.{times}
use Rattle.certain.specs.power.Numbers.{sum}

abbrev pub none : Signed
none = record { plus = 0; less = 0; over = 1 }

-- w 0 · x 0 + .. + w (n-1) · x (n-1), exactly
unfoldable pub weighed_sum : (ℕ → Signed) → (ℕ → Signed) → ℕ → Signed
weighed_sum w x zero = none
weighed_sum w x (suc n) = sum (weighed_sum w x n) (times (w n) (x n))

-- f 0 + .. + f (n-1)
unfoldable pub total : (ℕ → ℕ) → ℕ → ℕ
total f zero = 0
total f (suc n) = total f n + f n

-- the sum of the first n squares of xs as a fraction
unfoldable pub squares_under : List Float → ℕ → ℕ
squares_under xs zero = 1
squares_under xs (suc n) = squares_under xs n * (den (at xs n) * den (at xs n))

unfoldable pub squares_over : List Float → ℕ → ℕ
unfolding squares_under
squares_over xs zero = 0
squares_over xs (suc n) = squares_over xs n * (den (at xs n) * den (at xs n)) + num (at xs n) * num (at xs n) * squares_under xs n
