-- What a yes and a no of the power cone and of the generalized one say, about the tests that the cones have: powcone's and genpowcone's
-- definitions of Order 5's three answers. Definitions only; proofs/yes_of_cones/Meaning proves it.
use Rattle.std.specs.Prelude.{◌<◌, ◌≡◌, true, List, Float}
use Rattle.std.specs.Float.Ieee.Positive.{num}
use Rattle.double.specs.Operators.{at}
use Rattle.series.specs.change.SignedArithmetic.{BelowZero}
use Rattle.cone.specs.declared.verdict.Answer.TheVariants.{No, Yes}
use Rattle.powcone.specs.Feasible as power
use Rattle.genpowcone.specs.Feasible as wide
use Rattle.certain.specs.Coordinates as certain
use Rattle.certain.specs.power.Primal as primal
use Rattle.certain.specs.power.Dual as dual
use Rattle.certain.specs.power.Meaning.{Exponent}
use Rattle.certain.specs.wide.Tests.{primal_logs, dual_logs, over, number, Inside}
use Rattle.certain.specs.wide.Meaning.{Exponents, Point}

pub record Meaning : Type 0 where
  -- kind 2: s1, s2 and s3 are the point's places 0, 1 and 2
  pub power_yes :
      (α : Float) (s : List Float) → Exponent α → certain.Point (at s 0) (at s 1) (at s 2) → power.primal_feasible α s ≡ Yes
      → primal.Inside α (at s 0) (at s 1) (at s 2)
  pub power_no :
      (α : Float) (s : List Float) → Exponent α → certain.Point (at s 0) (at s 1) (at s 2) → power.signs s ≡ true
      → power.primal_feasible α s ≡ No
      → (0 < num (at s 2)) × BelowZero (primal.number α (at s 0) (at s 1) (at s 2))
  pub power_dual_yes :
      (α : Float) (z : List Float) → Exponent α → certain.Point (at z 0) (at z 1) (at z 2) → power.dual_feasible α z ≡ Yes
      → dual.Inside α (at z 0) (at z 1) (at z 2)
  pub power_dual_no :
      (α : Float) (z : List Float) → Exponent α → certain.Point (at z 0) (at z 1) (at z 2) → power.signs z ≡ true
      → power.dual_feasible α z ≡ No
      → (0 < num (at z 2)) × BelowZero (dual.number α (at z 0) (at z 1) (at z 2))
  -- kind 3
  pub wide_yes : (α s : List Float) → Exponents α → Point α s → wide.primal_feasible α s ≡ Yes → Inside (primal_logs α s) α s
  pub wide_no :
      (α s : List Float) → Exponents α → Point α s → wide.signs α s ≡ true → wide.primal_feasible α s ≡ No
      → (0 < over α s) × BelowZero (number (primal_logs α s) α s)
  pub wide_dual_yes : (α z : List Float) → Exponents α → Point α z → wide.dual_feasible α z ≡ Yes → Inside (dual_logs α z) α z
  pub wide_dual_no :
      (α z : List Float) → Exponents α → Point α z → wide.signs α z ≡ true → wide.dual_feasible α z ≡ No
      → (0 < over α z) × BelowZero (number (dual_logs α z) α z)
