-- What a yes and a no of the power cone say, proved: the tests behind an answer are read off it, the rest is Primal and Dual. Assumes
-- nothing.
use mathlib.Core.Path.{◌≡◌}
use mathlib.Core.Bool.{true}
use Prim.Native.Nat.{◌<◌}
use lib.Dec.{T}
use lib.Ieee.{Float}
use lib.Ieee.Fits.{and_l, and_r}
use lib.Ieee.Positive.{num}
use Rattle.double.specs.Operators.{◌≺◌}
use Rattle.double.specs.Numbers.{#0, pow2}
use Rattle.series.specs.change.SignedArithmetic.{BelowZero}
use Rattle.cone.specs.declared.verdict.Answer.TheVariants.{No, Yes}
use Rattle.cone.specs.verdict.Margins.{#2⁻³⁰}
use Rattle.powcone.specs.Feasible.{signs_at}
use Rattle.certain.specs.Coordinates.{Point}
use Rattle.certain.proofs.Decided.{yes_tests, no_tests}
use Rattle.certain.proofs.Meaning.{holds}
use Rattle.certain.specs.power.Primal as primal
use Rattle.certain.specs.power.Dual as dual
use Rattle.certain.specs.power.Meaning.{Exponent, Proved, Order5, Room}
use Rattle.certain.specs.power.Margins.{least_of_power, Part}
use Rattle.certain.proofs.power.Margins.{counted, power_enough, power_order_5, power-least}
use Rattle.certain.proofs.power.Primal as primal_proved
use Rattle.certain.proofs.power.Dual as dual_proved

module _ (part : Float) (P : Part least_of_power part) (α s1 s2 s3 : Float) (x : Exponent α) (p : Point s1 s2 s3) where
  module _ (passed : signs_at s1 s2 ≡ true) where
    first_above : T (#0 ≺ s1)
    first_above = and_l (#0 ≺ s1) (#0 ≺ s2) (holds _ passed)

    second_above : T (#0 ≺ s2)
    second_above = and_r (#0 ≺ s1) (#0 ≺ s2) (holds _ passed)

  primal_yes : primal.answer part α s1 s2 s3 ≡ Yes → primal.Inside α s1 s2 s3
  primal_yes e =
      let t = yes_tests (signs_at s1 s2) (primal.residue α s1 s2 s3) (primal.margin part α s1 s2 s3) e in
      primal_proved.inside α s1 s2 s3 x p (first_above t.0) (second_above t.0) part (counted power_enough part P) t.1

  primal_no : signs_at s1 s2 ≡ true → primal.answer part α s1 s2 s3 ≡ No → (0 < num s3) × BelowZero (primal.number α s1 s2 s3)
  primal_no passed e =
      primal_proved.outside α s1 s2 s3 x p (first_above passed) (second_above passed) part (counted power_enough part P)
      (no_tests (signs_at s1 s2) (primal.residue α s1 s2 s3) (primal.margin part α s1 s2 s3) passed e)

  dual_yes : dual.answer part α s1 s2 s3 ≡ Yes → dual.Inside α s1 s2 s3
  dual_yes e =
      let t = yes_tests (signs_at s1 s2) (dual.residue α s1 s2 s3) (dual.margin part α s1 s2 s3) e in
      dual_proved.inside α s1 s2 s3 x p (first_above t.0) (second_above t.0) part (counted power_enough part P) t.1

  dual_no : signs_at s1 s2 ≡ true → dual.answer part α s1 s2 s3 ≡ No → (0 < num s3) × BelowZero (dual.number α s1 s2 s3)
  dual_no passed e =
      dual_proved.outside α s1 s2 s3 x p (first_above passed) (second_above passed) part (counted power_enough part P)
      (no_tests (signs_at s1 s2) (dual.residue α s1 s2 s3) (dual.margin part α s1 s2 s3) passed e)

pub meaning : Proved
meaning part P = record {
  primal_yes = primal_yes part P;
  primal_no = primal_no part P;
  dual_yes = dual_yes part P;
  dual_no = dual_no part P;
}

pub order_5 : Order5
order_5 = meaning #2⁻³⁰ power_order_5

pub room : Room
room = meaning (pow2 least_of_power) power-least
