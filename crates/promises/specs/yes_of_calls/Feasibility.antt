-- What Order 12 says of the exported feasibility, over all three kinds: of the definitions that the contracts of both calls name.
-- Definitions only; proofs/yes_of_calls/Feasibility proves it.
use Rattle.std.specs.Prelude.{◌≡◌, true, false, List, Float}
use Rattle.cone.specs.declared.verdict.Answer.TheVariants.{No, Yes}
use Rattle.cone.specs.verdict.Answers.{number_of}
use Rattle.cone.specs.declared.Cone.{Cone}
use Rattle.call_cone.specs.formulas.Entries.{verdict_of, is_primal_feasible_of, is_dual_feasible_of}
use Rattle.promises.specs.yes_of_calls.Points.{AllDoubles, Held, AllInRange, ExactlyInside, BelowWall}

-- A refused call answers no, so that a yes needs no number beside it. `verdict_of No` is a no with the number 0
pub record Certain (c : Cone) (p : List Float) : Type 0 where
  -- "a yes .. means that the exact point is inside"
  pub primal_yes : (is_primal_feasible_of c p).answer ≡ number_of Yes → ExactlyInside c true p
  pub dual_yes : (is_dual_feasible_of c p).answer ≡ number_of Yes → ExactlyInside c false p
  -- "A no given on the residue means the same number is below zero"
  pub primal_no : is_primal_feasible_of c p ≡ verdict_of No → BelowWall c true p
  pub dual_no : is_dual_feasible_of c p ≡ verdict_of No → BelowWall c false p

-- any cone, good or bad, and any slice whose numbers have the sizes that Order 12 names
abbrev pub FeasibilityCertain : Type 0
FeasibilityCertain = (c : Cone) → Held c → (p : List Float) → AllDoubles p → AllInRange p → Certain c p
