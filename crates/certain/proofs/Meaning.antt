-- What Order 12 asks, proved: the tests behind an answer are read off it, the rest is Primal and Dual. Assumes nothing.
use mathlib.Core.Path.{◌≡◌, sym, subst}
use mathlib.Core.Bool.{Bool, true}
use lib.Dec.{T}
use lib.Ieee.{Float}
use lib.Ieee.Fits.{and_l, and_r}
use Rattle.double.specs.Operators.{◌≺◌}
use Rattle.double.specs.Numbers.{#0}
use Rattle.series.specs.change.SignedArithmetic.{BelowZero}
use Rattle.cone.specs.declared.verdict.Answer.TheVariants.{No, Yes}
use Rattle.expcone.specs.feasible.Primal as primalTest
use Rattle.expcone.specs.feasible.Dual as dualTest
use Rattle.certain.specs.Coordinates.{Point}
use Rattle.certain.specs.Primal as primal
use Rattle.certain.specs.Dual as dual
use Rattle.certain.specs.Meaning.{Meaning}
use Rattle.certain.proofs.Decided.{yes_tests, no_tests}
use Rattle.certain.proofs.Primal as primal_proved
use Rattle.certain.proofs.Dual as dual_proved

pub holds : (b : Bool) → b ≡ true → T b
holds b e = subst T (sym e) tt

module _ (x y z : Float) (p : Point x y z) where
  module _ (passed : primalTest.signs y z ≡ true) where
    third-above : T (#0 ≺ z)
    third-above = and_l (#0 ≺ z) (#0 ≺ y) (holds _ passed)

    second_above : T (#0 ≺ y)
    second_above = and_r (#0 ≺ z) (#0 ≺ y) (holds _ passed)

  module _ (passed : dualTest.signs x z ≡ true) where
    above : T (#0 ≺ z)
    above = and_l (#0 ≺ z) (x ≺ #0) (holds _ passed)

    first_below : T (x ≺ #0)
    first_below = and_r (#0 ≺ z) (x ≺ #0) (holds _ passed)

  primal_yes : primalTest.answer x y z ≡ Yes → primal.Inside x y z
  primal_yes e =
      let t =
      yes_tests (primalTest.signs y z) (primalTest.residue x y (primalTest.log y z)) (primalTest.margin x y (primalTest.log y z)) e in
      primal_proved.inside x y z p (third-above t.0) (second_above t.0) t.1

  primal_no : primalTest.signs y z ≡ true → primalTest.answer x y z ≡ No → BelowZero (primal.number x y z)
  primal_no passed e =
      primal_proved.below_wall x y z p (third-above passed) (second_above passed)
      (no_tests (primalTest.signs y z) (primalTest.residue x y (primalTest.log y z)) (primalTest.margin x y (primalTest.log y z)) passed e)

  dual_yes : dualTest.answer x y z ≡ Yes → dual.Inside x y z
  dual_yes e =
      let t = yes_tests (dualTest.signs x z) (dualTest.residue x y (dualTest.log x z)) (dualTest.margin x y (dualTest.log x z)) e in
      dual_proved.inside x y z p (above t.0) (first_below t.0) t.1

  dual_no : dualTest.signs x z ≡ true → dualTest.answer x y z ≡ No → BelowZero (dual.number x y z)
  dual_no passed e =
      dual_proved.below_wall x y z p (above passed) (first_below passed)
      (no_tests (dualTest.signs x z) (dualTest.residue x y (dualTest.log x z)) (dualTest.margin x y (dualTest.log x z)) passed e)

pub meaning : Meaning
meaning = record { primal_yes = primal_yes; primal_no = primal_no; dual_yes = dual_yes; dual_no = dual_no }
