-- What a yes and a no of the power cone say, as one statement about both tests. Definitions only; proofs/power/Meaning proves it.
use Rattle.std.specs.Prelude.{◌<◌, ◌≡◌, true, T, Float}
use Rattle.std.specs.Float.{binary64}
use Rattle.std.specs.Float.Ieee.{fits}
use Rattle.std.specs.Float.Ieee.Positive.{num}
use Rattle.double.specs.Operators.{◌≺◌}
use Rattle.double.specs.Numbers.{#0, #1, pow2}
use Rattle.series.specs.change.SignedArithmetic.{BelowZero}
use Rattle.cone.specs.declared.verdict.Answer.TheVariants.{No, Yes}
use Rattle.cone.specs.verdict.Margins.{#2⁻³⁰}
use Rattle.powcone.specs.Feasible.{signs_at}
use Rattle.certain.specs.Coordinates.{Point}
use Rattle.certain.specs.power.Margins.{least_of_power, Part}
use Rattle.certain.specs.power.Primal as primal
use Rattle.certain.specs.power.Dual as dual

-- 01, number 1: a power exponent is "above 0 and below 1"; a double. Of any size: it may be as small as doubles go
pub record Exponent (α : Float) : Type 0 where
  pub holds : T (fits binary64 α)
  pub above_0 : T (#0 ≺ α)
  pub below_1 : T (α ≺ #1)

-- As Order 12 for the exponential cone: all three coordinates are zero or between 2^-500 and 2^500 in size. A yes means that the exact
-- point is inside. A no given on the residue, the sign tests having passed, means that it is outside: the third is not 0, and the number is
-- below zero. Undecided promises nothing. The margin is this part of the sum.
pub record Meaning (part : Float) : Type 0 where
  pub primal_yes : (α s1 s2 s3 : Float) → Exponent α → Point s1 s2 s3 → primal.answer part α s1 s2 s3 ≡ Yes → primal.Inside α s1 s2 s3
  pub primal_no :
      (α s1 s2 s3 : Float) → Exponent α → Point s1 s2 s3 → signs_at s1 s2 ≡ true → primal.answer part α s1 s2 s3 ≡ No
      → (0 < num s3) × BelowZero (primal.number α s1 s2 s3)
  pub dual_yes : (α z1 z2 z3 : Float) → Exponent α → Point z1 z2 z3 → dual.answer part α z1 z2 z3 ≡ Yes → dual.Inside α z1 z2 z3
  pub dual_no :
      (α z1 z2 z3 : Float) → Exponent α → Point z1 z2 z3 → signs_at z1 z2 ≡ true → dual.answer part α z1 z2 z3 ≡ No
      → (0 < num z3) × BelowZero (dual.number α z1 z2 z3)

-- What is proved: it holds of every part from 2^-34 to a quarter. Order 5's 2^-30 is one of them
abbrev pub Proved : Type 0
Proved = (part : Float) → Part least_of_power part → Meaning part

abbrev pub Order5 : Type 0
Order5 = Meaning #2⁻³⁰

-- the room beside it: a margin of a sixteenth of Order 5's would do
abbrev pub Room : Type 0
Room = Meaning (pow2 least_of_power)
