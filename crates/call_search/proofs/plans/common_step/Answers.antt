-- A call that its rows refuse leaves with their number, one that they let through hands the search's outcome on. Assumes nothing.
use mathlib.Core.Path.{◌∙◌, refl, ap}
use Rattle.cone.proofs.table.Settled.{refused_by, done_by, ok_code}
use Rattle.call_search.specs.single.Entries.{found}
use Rattle.call_search.specs.plans.Entries.{common_step_of}
use Rattle.call_search.proofs.plans.LetThrough.{plannable}
use Rattle.call_search.proofs.plans.common_step.Goals as goal

pub returns-in-Err : goal.returns-in-Err
unfolding common_step_of
returns-in-Err c = simp c.refused.ensures (refused_by _ _ _ _ _ _ c.plan_rows.ensures c.in-Err.is refl)

pub common_search-searched-requires : goal.common_search-searched-requires
common_search-searched-requires c = plannable _ _ _ _ _ (ok_code _ _ _ c.plan_rows.ensures c.in_default.is)

pub returns : goal.returns
unfolding common_step_of
returns c =
    simp c.from.ensures (ap found c.common_search-searched.ensures ∙ done_by _ _ _ _ _ c.plan_rows.ensures c.in_default.is)
