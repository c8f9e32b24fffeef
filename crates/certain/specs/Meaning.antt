-- What Order 12 asks, as one statement about both tests. Definitions only; proofs/Meaning proves it.
use Rattle.std.specs.Prelude.{◌≡◌, true, Float}
use Rattle.series.specs.change.SignedArithmetic.{BelowZero}
use Rattle.cone.specs.declared.verdict.Answer.TheVariants.{No, Yes}
use Rattle.expcone.specs.feasible.Primal as primalTest
use Rattle.expcone.specs.feasible.Dual as dualTest
use Rattle.certain.specs.Coordinates.{Point}
use Rattle.certain.specs.Primal as primal
use Rattle.certain.specs.Dual as dual

-- "a yes for the exponential cone means that the exact point is inside". "A no given on the residue means the same number is below zero":
-- the sign tests have passed. "Undecided promises nothing."
pub record Meaning : Type 0 where
  pub primal_yes : (s1 s2 s3 : Float) → Point s1 s2 s3 → primalTest.answer s1 s2 s3 ≡ Yes → primal.Inside s1 s2 s3
  pub primal_no :
      (s1 s2 s3 : Float) → Point s1 s2 s3 → primalTest.signs s2 s3 ≡ true → primalTest.answer s1 s2 s3 ≡ No
      → BelowZero (primal.number s1 s2 s3)
  pub dual_yes : (z1 z2 z3 : Float) → Point z1 z2 z3 → dualTest.answer z1 z2 z3 ≡ Yes → dual.Inside z1 z2 z3
  pub dual_no :
      (z1 z2 z3 : Float) → Point z1 z2 z3 → dualTest.signs z1 z3 ≡ true → dualTest.answer z1 z2 z3 ≡ No → BelowZero (dual.number z1 z2 z3)
