-- What a yes and a no of the generalized power cone say, as one statement about both tests. Definitions only; proofs/wide_kind/Meaning
-- proves it.
use Rattle.std.specs.Prelude.{ℕ, ◌+◌, ◌≤◌, ◌<◌, ◌≡◌, true, List, T, length, Float}
use Rattle.std.specs.Float.{binary64}
use Rattle.std.specs.Float.Ieee.{fits}
use Rattle.double.specs.Operators.{◌⊖◌, ◌≺◌, ◌≼◌, at}
use Rattle.double.specs.Numbers.{#0, #1, #tolerance1, pow2}
use Rattle.algebra.specs.Vectors.{sum_of}
use Rattle.series.specs.change.SignedArithmetic.{BelowZero}
use Rattle.cone.specs.declared.verdict.Answer.TheVariants.{No, Yes}
use Rattle.cone.specs.verdict.Margins.{#2⁻³⁰}
use Rattle.genpowcone.specs.Feasible.{signs}
use Rattle.certain.specs.Coordinates.{InRange}
use Rattle.certain.specs.power.Margins.{least_of_wide, Part}
use Rattle.certain.specs.wide.Tests.{primal_answer, dual_answer, primal_logs, dual_logs, over, number, Inside}

-- 01: "its dim1 or dim2 not 1..32"
abbrev pub most_exponents : ℕ
most_exponents = 32

abbrev pub most_tail : ℕ
most_tail = 32

-- 01: "its computed exponent sum more than 2^-40 from 1"
abbrev pub sum_tolerance : Float
sum_tolerance = #tolerance1

-- 01, number 1, of what it asks of a generalized cone's exponents α: at most 32, each "above 0 and at most 1", their "computed exponent
-- sum" not above 1 by more than 2^-40. Doubles.
pub record Exponents (α : List Float) : Type 0 where
  pub most : length α ≤ most_exponents
  pub doubles : (i : ℕ) → i < length α → T (fits binary64 (at α i))
  pub above_0 : (i : ℕ) → i < length α → T (#0 ≺ at α i)
  pub at_most_1 : (i : ℕ) → i < length α → T (at α i ≼ #1)
  pub sum-most : T (sum_of α ⊖ #1 ≼ sum_tolerance)

-- all coordinates are zero or between 2^-500 and 2^500 in size, and the tail has at most 32
pub record Point (α s : List Float) : Type 0 where
  pub head : length α ≤ length s
  pub tail : length s ≤ length α + most_tail
  pub doubles : (i : ℕ) → i < length s → T (fits binary64 (at s i))
  pub sizes : (i : ℕ) → i < length s → InRange (at s i)

-- as for the power cone (specs/power/Meaning): the margin is this part of the sum
pub record Meaning (part : Float) : Type 0 where
  pub primal_yes : (α s : List Float) → Exponents α → Point α s → primal_answer part α s ≡ Yes → Inside (primal_logs α s) α s
  pub primal_no :
      (α s : List Float) → Exponents α → Point α s → signs α s ≡ true → primal_answer part α s ≡ No
      → (0 < over α s) × BelowZero (number (primal_logs α s) α s)
  pub dual_yes : (α z : List Float) → Exponents α → Point α z → dual_answer part α z ≡ Yes → Inside (dual_logs α z) α z
  pub dual_no :
      (α z : List Float) → Exponents α → Point α z → signs α z ≡ true → dual_answer part α z ≡ No
      → (0 < over α z) × BelowZero (number (dual_logs α z) α z)

-- What is proved: it holds of every part from 2^-33 to a quarter. Order 5's 2^-30 is one of them
abbrev pub Proved : Type 0
Proved = (part : Float) → Part least_of_wide part → Meaning part

abbrev pub Order5 : Type 0
Order5 = Meaning #2⁻³⁰

-- the room beside it: a margin of an eighth of Order 5's would do
abbrev pub Room : Type 0
Room = Meaning (pow2 least_of_wide)
