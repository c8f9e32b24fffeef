-- 02, Order 5: "Feasibility shall answer yes, no or undecided", of both tests of include/spindle.h, whatever their callers pass: of every
-- outcome that a contract allows. Statements; proofs/undecided/Calls has the proofs.
use Rattle.std.specs.Prelude.{◌≡◌, Bool, true, false, List, Float}
use Rattle.cone.specs.declared.Cone.{Cone}
use Rattle.cone.specs.declared.verdict.Verdict.{Verdict}
use Rattle.cone.specs.verdict.Answers.{number_of}
use Rattle.kinds.specs.Answers.{answer_of}
use Rattle.promises.specs.rules.Entries.{verdict, is_primal_feasible, is_dual_feasible}
use Rattle.promises.specs.demand_one.Calls.{entry, answered}
use Rattle.promises.specs.allowed.Allowed.{Allowed}
use Rattle.promises.specs.undecided.Laws.{Laws}

-- a test that is done: its answer is the side's own of the point that was passed, and the laws hold of it
pub record Tells (c : Cone) (primal : Bool) (p : List Float) (v : Verdict) : Type 0 where
  pub answer : v.answer ≡ number_of (answer_of c primal p)
  pub laws : Laws c primal p

pub record CallsTell : Type 0 where
  pub primal : (c : Cone) (s : List Float) (v : Verdict) → Allowed (entry (is_primal_feasible s) c) (answered (verdict v))
      → v.code ≡ 0 → Tells c true s v
  pub dual : (c : Cone) (z : List Float) (v : Verdict) → Allowed (entry (is_dual_feasible z) c) (answered (verdict v))
      → v.code ≡ 0 → Tells c false z v
