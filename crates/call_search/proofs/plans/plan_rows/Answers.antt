-- A plan that is not good is refused with 1; of a good one the lengths are added, and the other rows judge. Assumes nothing.
use mathlib.Core.Path.{sym, ◌∙◌}
use Rattle.call_search.specs.plans.Rows.{plan_faults}
use Rattle.call_search.proofs.plans.LetThrough.{bad-plan}
use Rattle.call_search.proofs.plans.plan_rows.Goals as goal

pub returns-then-not-plan_ok : goal.returns-then-not-plan_ok
returns-then-not-plan_ok c = bad-plan _ _ _ _ _ (sym c.plan_ok.ensures ∙ c.if-not-plan_ok.true)

pub total-requires : goal.total-requires
total-requires c = sym c.plan_ok.ensures ∙ c.if-not-plan_ok.false

pub returns : goal.returns
unfolding plan_faults
returns c =
    let good-plan = sym c.plan_ok.ensures ∙ c.if-not-plan_ok.false in
    simp (c.side_rows.ensures, c.total.ensures, good-plan)
