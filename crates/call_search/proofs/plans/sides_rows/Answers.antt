-- A plan that is not good is refused with 1; of a good one the lengths are added, and the other rows judge. Assumes nothing.
use mathlib.Core.Path.{sym, ◌∙◌}
use Rattle.call_search.specs.plans.Rows.{sides_faults}
use Rattle.call_search.proofs.plans.LetThrough.{bad_sides}
use Rattle.call_search.proofs.plans.sides_rows.Goals as goal

pub total-requires : goal.total-requires
total-requires c = sym c.plan_ok.ensures ∙ c.if-plan_ok.true

pub returns-then-plan_ok : goal.returns-then-plan_ok
unfolding sides_faults
returns-then-plan_ok c =
    let good-plan = sym c.plan_ok.ensures ∙ c.if-plan_ok.true in
    simp (c.both_rows.ensures, c.total.ensures, good-plan)

pub returns : goal.returns
returns c = bad_sides _ _ _ _ _ _ _ _ (sym c.plan_ok.ensures ∙ c.if-plan_ok.false)
