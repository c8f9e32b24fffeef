-- Order 10 of the entry: a call with number 0 was let through by its rows, so its answer is the search's, and its settings are usable.
-- Assumes nothing.
use mathlib.Core.Path.{◌≡◌, refl, sym, ap, subst, ◌∙◌}
use mathlib.Core.Bool.{Bool}
use mathlib.Core.List.{List}
use lib.Ieee.{Float}
use lib.ListN.{length}
use denote.Triple.Clauses.{AtExit}
use contract.Lifetimes.{Lfts}
use borrow.Fn.Kinds.{Dens, GoodsP, res_t, ended_of}
use Rattle.cone.specs.declared.Cone.{Cone}
use Rattle.cone.specs.declared.Settings.{Settings}
use Rattle.cone.specs.declared.Found.{Found}
use Rattle.judges.specs.Refusals.{Lent}
use Rattle.cone.proofs.table.Settled.{done}
use Rattle.cone.specs.words.Words.{cones_of}
use Rattle.search.specs.trials.Costed.{costed_of}
use Rattle.search.proofs.trials.LargestPassing.{largest_passing}
use Rattle.search.proofs.Settings.{of_true, usable_of}
use Rattle.search.proofs.NoNan.{searched_step, searched-numbers}
use Rattle.call_search.specs.single.Entries.{found, refuse_found}
use Rattle.call_search.specs.single.Demand3.{Doubles, outcome_of}
use Rattle.call_search.proofs.single.Demand3.{let_through}
use Rattle.search.specs.plan.Plans.{plan_problem, plan_of}
use Rattle.search.proofs.plan.EachCone.{tests_at_most}
use Rattle.call_search.specs.plans.Rows.{plan_rows}
use Rattle.call_search.specs.plans.Entries.{common_step_of}
use Rattle.call_search.specs.plans.CommonStep.{AsOrdered, CommonMeets}
use Rattle.call_search.proofs.plans.LetThrough.{plannable, finite_slices}
use Rattle.call_search.proofs.plans.common_step.Kinds as kinds
use Rattle.call_search.proofs.plans.common_step.Reads as step

-- a search that may begin ends as Order 10 asks
searched : (cs : List Cone) (primal : Bool) (dq q point : List Float) (s : Settings) → Doubles s → plan_rows cs dq q (length point) s ≡ 0
    → AsOrdered cs primal dq q s (costed_of (plan_of cs primal dq q s))
unfolding costed_of
searched cs primal dq q point s d e =
    let r = (plannable cs dq q point s e).searchable in
    let f = finite_slices cs dq q point s e in
    let ok = usable_of s d.start d.smallest r.finite_settings r.good-settings in
    record {
      largest_passing = largest_passing (plan_of cs primal dq q s) ok;
      tests_at_most = tests_at_most cs primal dq q s ok;
      step_number = searched_step (plan_problem cs primal dq q s) ok;
      point-numbers = searched-numbers _ dq q s ok f.0 f.1;
    }

pub common_meets : CommonMeets
unfolding common_step_of
common_meets cs primal dq q point s d e =
    let o = costed_of (plan_of cs primal dq q s) in
    let k = plan_rows cs dq q (length point) s in
    let z = let_through (λ (l : Lent Found). l.answer.code) (found o) (refuse_found point) (λ k. refl) k e in
    subst (λ (l : Lent Found). AsOrdered cs primal dq q s (outcome_of l.answer l.slice))
    (done k k (found o) (refuse_found point) refl z) (searched cs primal dq q point s d z)

-- ---- the function: `Post` is the claim of `ensures`, and `GoodsP` what holds of the arguments of every call, so that each f64 is a double

module _ (κs : Lfts 4) (a : Dens κs kinds.ps) where
  -- the arguments: cones, side, direction, point, lent point, settings
  abbrev AsOrderedOfCall : Lent Found → Type 0
  AsOrderedOfCall l =
      AsOrdered (cones_of a.0.now) a.1.0 a.1.1.0.now a.1.1.1.0.now a.1.1.1.1.1.0
      (outcome_of l.answer l.slice)

  pub common_step_meets : (r : (res_t kinds.r κs).Denot) (x : AtExit (ended_of 4 kinds.ps kinds.r) κs)
      → GoodsP κs kinds.ps a → step.Post κs a r x → r.code ≡ 0 → AsOrderedOfCall (record { answer = r; slice = x.1.1.1.1.0.now })
  common_step_meets r x g p e =
      let doubles = g.1.1.1.1.1.0.1.1 in
      let d : Doubles a.1.1.1.1.1.0 = record { start = of_true _ doubles.0.1; smallest = of_true _ doubles.1.1.0.1 } in
      subst AsOrderedOfCall (sym p)
      (common_meets _ _ _ _ a.1.1.1.1.0.now _ d (ap (λ (l : Lent Found). l.answer.code) (sym p) ∙ e))
