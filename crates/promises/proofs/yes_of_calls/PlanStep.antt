-- Order 12 of one step for both sides of a plan: where it is not +0 every cone has passed on its part of each point. Assumes nothing.
use mathlib.Core.Path.{◌≡◌, refl, sym, ap, ◌∙◌}
use mathlib.Core.Bool.{true, false}
use mathlib.Core.List.{List}
use Prim.Native.Nat.{ℕ, zero, suc, ◌<◌}
use lib.Ieee.{Float}
use lib.ListN.{length}
use borrow.Author.Tests.{not-false}
use Rattle.cone.specs.declared.Cone.{Cone}
use Rattle.cone.specs.declared.Settings.{Settings}
use Rattle.cone.specs.words.Words.{cones_of}
use Rattle.cone.specs.table.Table.{settle}
use Rattle.cone.proofs.table.Settled.{no_fault}
use Rattle.search.specs.trials.Search.{Problem, search_of}
use Rattle.search.specs.trials.Costed.{costed_of}
use Rattle.search.specs.Points.{trial_point}
use Rattle.search.proofs.Points.{length-point}
use Rattle.search.specs.plan.Plans.{total_of, plan_ok}
use Rattle.search.specs.plan.EachCone.{cone_at}
use Rattle.search.specs.plan.Sides.{dual_side, primal_side, sides_problem, sides_of, in_sides}
use Rattle.search.proofs.plan.Sides.{dual-passed, primal_passed, dual-of, primal_of}
use Rattle.call_search.specs.plans.Rows.{sides_faults, sides_rows}
use Rattle.call_search.specs.plans.Entries.{found_on_sides, refuse_sides, plan_step_of}
use Rattle.call_search.proofs.plans.LetThrough.{both_plannable}
use Rattle.promises.specs.yes_of_calls.Points.{Held}
use Rattle.promises.specs.yes_of_calls.Searches.{PartsCertain, PlanStepCertain}
use Rattle.promises.proofs.yes_of_calls.Accepted.{held_in_list}
use Rattle.promises.proofs.yes_of_calls.Searches.{searched}
use Rattle.promises.proofs.yes_of_calls.CommonStep.{part_inside}

module _ (cs : List Cone) (i : ℕ) (here : i < length cs) (held : Held (cone_at cs i)) (plan-ok : plan_ok cs ≡ true)
    (dz ds z s : List Float) (settings : Settings) (dual-same : length dz ≡ length z) (primal-same : length ds ≡ length s)
    (dual_long : total_of cs ≡ length z) (primal_long : total_of cs ≡ length s) where
  abbrev P : Problem
  P = sides_problem cs dz ds z s settings

  abbrev dual-at : List Float
  dual-at = trial_point z dz (search_of P).step

  abbrev primal_at : List Float
  primal_at = trial_point s ds (search_of P).step

  long_at : total_of cs ≡ length dual-at
  long_at = dual_long ∙ sym (length-point z dz (search_of P).step dual-same)

  parts_certain : PartsCertain cs i (found_on_sides (in_sides cs (costed_of (sides_of cs dz ds z s settings))))
  unfolding costed_of
  parts_certain = record {
    dual_side = λ h.
        let t = searched P h in
        let first = ap (dual_side cs) t.is ∙ dual-of cs dual-at primal_at long_at in
        part_inside cs i here held plan-ok false dz z _ _ dual-same dual_long first (dual-passed cs _ _ t.passes);
    primal_side = λ h.
        let t = searched P h in
        let second = ap (primal_side cs) t.is ∙ primal_of cs dual-at primal_at long_at in
        part_inside cs i here held plan-ok true ds s _ _ primal-same primal_long second (primal_passed cs _ _ t.passes);
  }

sides_taken : (cs : List Cone) (dz ds z s : List Float) (n m : ℕ) (settings : Settings) → sides_rows cs dz ds z s n m settings ≡ 0
    → plan_ok cs ≡ true
unfolding sides_faults
sides_taken cs dz ds z s n m settings e = not-false _ (no_fault (sides_faults cs dz ds z s n m settings) e).cone

-- k is the number of the call's rows
pub plan_step_certain : PlanStepCertain
unfolding plan_step_of settle
plan_step_certain words i here dz ds z s dual_point primal_point settings =
    go (sides_rows cs dz ds z s (length dual_point) (length primal_point) settings) refl
  where
    cs : List Cone
    cs = cones_of words

    go : (k : ℕ) → sides_rows cs dz ds z s (length dual_point) (length primal_point) settings ≡ k
        → PartsCertain cs i
        (settle k (found_on_sides (in_sides cs (costed_of (sides_of cs dz ds z s settings)))) (refuse_sides dual_point primal_point))
    go zero e =
        let ready = both_plannable cs dz ds z s dual_point primal_point settings e in
        parts_certain cs i here (held_in_list words i here) (sides_taken cs dz ds z s _ _ settings e) dz ds z s settings
        ready.0.searchable.dq_length ready.1.searchable.dq_length ready.0.lengths_add_up ready.1.lengths_add_up
    go (suc k) e = record { dual_side = λ h r. absurd (h refl); primal_side = λ h r. absurd (h refl) }
