-- What the test of a point answers, by the cone's kind and by side. Definitions only. 01: "Closures become a choice by cone kind."
use Rattle.std.specs.Prelude.{ℕ, Bool, cond, List, eqb, ltb, take, Float}
use Rattle.double.specs.Operators.{at}
use Rattle.cone.specs.declared.verdict.Answer.{Answer}
use Rattle.cone.specs.declared.verdict.Answer.TheVariants.{No}
use Rattle.cone.specs.declared.Cone.{Cone}
use Rattle.cone.specs.Codes.{is_wide, by_kind}
use Rattle.cone.specs.Points.{three_of}
use Rattle.expcone.specs.feasible.Feasible as expcone
use Rattle.powcone.specs.Feasible as powcone
use Rattle.genpowcone.specs.Feasible as genpowcone

-- 000 step_length: is_prim_feasible_fcn and is_dual_feasible_fcn
unfoldable pub exp_answer : Bool → List Float → Answer
exp_answer primal p = cond primal (expcone.primal_feasible p) (expcone.dual_feasible p)

-- 001 step_length, the same
unfoldable pub pow_answer : Float → Bool → List Float → Answer
pow_answer α primal p = cond primal (powcone.primal_feasible α p) (powcone.dual_feasible α p)

-- 002 step_length, the same
unfoldable pub genpow_answer : List Float → Bool → List Float → Answer
genpow_answer α primal p = cond primal (genpowcone.primal_feasible α p) (genpowcone.dual_feasible α p)

-- The first dim1 exponent places are the generalized cone's, the first the power cone's.
unfoldable pub answer_in : ℕ → ℕ → List Float → Bool → List Float → Answer
answer_in kind dim1 exps primal p =
    by_kind kind (exp_answer primal (three_of p)) (pow_answer (at exps 0) primal (three_of p)) (genpow_answer (take dim1 exps) primal p) No

-- how many exponent places the test of a kind reads: 32 are all that there are
unfoldable pub used_of : ℕ → ℕ → ℕ
used_of kind dim1 = cond (eqb kind 2) 1 (cond (is_wide kind) (cond (ltb dim1 32) dim1 32) 0)

abbrev pub answer_of : Cone → Bool → List Float → Answer
answer_of c primal p = answer_in c.kind c.dim1 c.exps primal p
