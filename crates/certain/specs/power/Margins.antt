-- The answer of both power cones' tests with any part of the sum that Order 5 names as margin, and how small that part may be. Definitions
-- only.
use Rattle.std.specs.Prelude.{ℕ, ◌*◌, ◌^◌, ◌≤◌, Bool, T, Float}
use Rattle.std.specs.Float.{binary64}
use Rattle.std.specs.Float.Ieee.{fits}
use Rattle.std.specs.Float.Ieee.Positive.{num, den}
use Rattle.std.specs.Float.Ieee.Scale.{finite}
use Rattle.double.specs.Operators.{◌⊖◌, ◌≺◌}
use Rattle.double.specs.Numbers.{#0}
use Rattle.cone.specs.declared.verdict.Answer.{Answer}
use Rattle.cone.specs.verdict.Answers.{judged}
use Rattle.cone.specs.verdict.Margins.{margin_of}

-- 02, Order 5: "For both power cones it is 2^-30·(the exponential plus the sumsq)"; there the part is 2^-30. With the sign tests' answer
abbrev pub answer_of : Float → Bool → Float → Float → Answer
answer_of part signs power square = judged signs (power ⊖ square) (margin_of part power square)

-- The largest k of which the proof carries a margin of 2^-k. Beyond it the errors of the exponent, counted in 2^-52, are more than such a
-- margin is worth: docs/FINDINGS.md has both numbers.
abbrev pub least_of_power : ℕ
least_of_power = 34

abbrev pub least_of_wide : ℕ
least_of_wide = 33

-- a part from 2^-k to a quarter, ends included: a double, num/den
pub record Part (k : ℕ) (part : Float) : Type 0 where
  pub holds : T (fits binary64 part)
  pub finite_number : T (finite part)
  pub above_0 : T (#0 ≺ part)
  pub least : den part ≤ 2 ^ k * num part
  pub most : 4 * num part ≤ den part
