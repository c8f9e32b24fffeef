-- `plan_ok` meets its contract. The loop's invariant: the plan is good exactly if what is behind is and the cones that are left are.
-- Assumes nothing.
use mathlib.Core.Path.{◌≡◌}
use mathlib.Core.Bool.{◌&&◌}
use lib.ListN.{drop}
use Rattle.cone.specs.words.Words.{cones_of}
use Rattle.search.specs.plan.Plans.{all_cones_ok, plan_ok}
use Rattle.search.proofs.plan.plan_ok.Given as goal

abbrev pub invariant-loop-w : goal.invariant-loop-w
invariant-loop-w l = plan_ok (cones_of l.cones) ≡ (l.all && all_cones_ok (drop l.w-index (cones_of l.cones)))
