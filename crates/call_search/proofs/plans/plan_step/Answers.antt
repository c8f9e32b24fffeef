-- A call that its rows refuse leaves with their number, one that they let through hands the search's outcome on. Assumes nothing.
use mathlib.Core.Path.{◌∙◌, refl, ap}
use Rattle.cone.proofs.table.Settled.{refused_by, done_by, ok_code}
use Rattle.call_search.specs.plans.Entries.{found_on_sides, plan_step_of}
use Rattle.call_search.proofs.plans.LetThrough.{both_plannable}
use Rattle.call_search.proofs.plans.plan_step.Goals as goal

pub returns-in-Err : goal.returns-in-Err
unfolding plan_step_of
returns-in-Err c = simp c.refused.ensures (refused_by _ _ _ _ _ _ c.sides_rows-judged.ensures c.in-Err.is refl)

pub sides_search-searched-requires : goal.sides_search-searched-requires
sides_search-searched-requires c = both_plannable _ _ _ _ _ _ _ _ (ok_code _ _ _ c.sides_rows-judged.ensures c.in_default.is)

pub returns : goal.returns
unfolding plan_step_of
returns c =
    simp c.from.ensures (ap found_on_sides c.sides_search-searched.ensures ∙ done_by _ _ _ _ _ c.sides_rows-judged.ensures c.in_default.is)
