-- Demand 3 of the definitions that the contracts of the four searches name: no row of the table applies, so that the number is 0; what
-- holds of a call with the number 0 is call_search's. Assumes nothing.
use mathlib.Core.Path.{◌≡◌, refl}
use mathlib.Core.Bool.{true, false}
use mathlib.Core.List.{List}
use lib.Dec.{eqb}
use lib.Ieee.{Float}
use lib.ListN.{length}
use Prim.Native.Nat.{ℕ}
use borrow.Author.Tests.{eq-eqb}
use Rattle.cone.specs.declared.Cone.{Cone}
use Rattle.cone.specs.declared.Settings.{Settings}
use Rattle.cone.specs.declared.Found.{Found}
use Rattle.cone.specs.declared.Steps.{Steps}
use Rattle.cone.specs.Codes.{numel_of}
use Rattle.cone.specs.table.Table.{first_row, settle}
use Rattle.judges.specs.Judges.{settings_finite, settings_ok}
use Rattle.judges.specs.Refusals.{Lent, LentTwo}
use Rattle.search.specs.trials.Search.{search_of}
use Rattle.search.specs.trials.Costed.{costed_of}
use Rattle.search.specs.Problems.{problem_of}
use Rattle.search.specs.plan.Plans.{total_of, plan_of}
use Rattle.search.specs.plan.Sides.{sides_of, in_sides}
use Rattle.call_search.specs.single.Rows.{search_faults, search_rows, step_faults, step_rows}
use Rattle.call_search.specs.single.Entries.{found, refuse_found, both_found, refuse_steps, backtrack_search_of, step_length_of}
use Rattle.call_search.specs.single.Demand3.{Doubles}
use Rattle.call_search.proofs.single.Demand3.{search_meets, step_meets}
use Rattle.call_search.specs.plans.Rows.{plan_faults, plan_rows, sides_faults, sides_rows}
use Rattle.call_search.specs.plans.Entries.{common_step_of, found_on_sides, refuse_sides, plan_step_of}
use Rattle.call_search.proofs.plans.CommonStep.{common_meets}
use Rattle.call_search.proofs.plans.PlanStep.{plan_step_meets}
use Rattle.promises.specs.demand_three.Premises.{Accepted, AcceptedPlan, Side, Asked}
use Rattle.promises.specs.demand_three.Searches.{DemandThree}
use Rattle.promises.proofs.demand_three.Premises.{settings_finite_lem, settings_ok_lem, plan-taken}

-- what row 2 asks of a length
same : (n a : ℕ) → a ≡ n → eqb a n ≡ true
same n a e = eq-eqb a n e

-- ---- no row applies

module _ (s : Settings) (d : Doubles s) (a : Asked s) where
  abbrev finite_s : settings_finite s ≡ true
  finite_s = settings_finite_lem s d.smallest a

  abbrev ok_s : settings_ok s ≡ true
  ok_s = settings_ok_lem s d.smallest a

  module _ (dq q point : List Float) where
    search-rows : (c : Cone) → Accepted c → Side (numel_of c) dq q point → search_rows c dq q (length point) s ≡ 0
    unfolding search_faults first_row
    search-rows c ok l =
        let n = numel_of c in
        rw (
          ok,
          same n _ l.direction_length,
          same n _ l.start-length,
          same n _ l.point-length,
          l.direction_finite,
          l.start_finite,
          finite_s,
          ok_s,
        )

    plan-rows : (cs : List Cone) → AcceptedPlan cs → Side (total_of cs) dq q point → plan_rows cs dq q (length point) s ≡ 0
    unfolding plan_faults first_row
    plan-rows cs ok l =
        let n = total_of cs in
        rw (
          plan-taken cs ok,
          same n _ l.direction_length,
          same n _ l.start-length,
          same n _ l.point-length,
          l.direction_finite,
          l.start_finite,
          finite_s,
          ok_s,
        )

  module _ (dz ds z z' dual primal : List Float) where
    step_rows_lem : (c : Cone) → Accepted c → Side (numel_of c) dz z dual → Side (numel_of c) ds z' primal
        → step_rows c dz ds z z' (length dual) (length primal) s ≡ 0
    unfolding step_faults first_row
    step_rows_lem c ok l m =
        let n = numel_of c in
        rw (
          ok,
          same n _ l.direction_length,
          same n _ m.direction_length,
          same n _ l.start-length,
          same n _ m.start-length,
          same n _ l.point-length,
          same n _ m.point-length,
          l.direction_finite,
          m.direction_finite,
          l.start_finite,
          m.start_finite,
          finite_s,
          ok_s,
        )

    sides_rows_lem : (cs : List Cone) → AcceptedPlan cs → Side (total_of cs) dz z dual → Side (total_of cs) ds z' primal
        → sides_rows cs dz ds z z' (length dual) (length primal) s ≡ 0
    unfolding sides_faults first_row
    sides_rows_lem cs ok l m =
        let n = total_of cs in
        rw (
          plan-taken cs ok,
          same n _ l.direction_length,
          same n _ m.direction_length,
          same n _ l.start-length,
          same n _ m.start-length,
          same n _ l.point-length,
          same n _ m.point-length,
          l.direction_finite,
          m.direction_finite,
          l.start_finite,
          m.start_finite,
          finite_s,
          ok_s,
        )

-- ---- so the number is 0

settled : {A : Type 0} (number : A → ℕ) (k : ℕ) (d : A) (refuse : ℕ → A) → number d ≡ 0 → k ≡ 0 → number (settle k d refuse) ≡ 0
unfolding settle
settled number k d refuse z e = rw e z

pub demand_three : DemandThree
unfolding backtrack_search_of step_length_of common_step_of plan_step_of
demand_three = record {
  backtrack_search_lem = λ c primal dq q point s d ok l a.
      let e = settled (λ (x : Lent Found). x.answer.code) _ (found (search_of (problem_of c primal dq q s))) (refuse_found point) refl
      (search-rows s d a dq q point c ok l)
      in
      (e, search_meets c primal dq q point s d e);
  step_length_lem = λ c dz ds z s dual primal how d ok l m a.
      let both = both_found (search_of (problem_of c false dz z how)) (search_of (problem_of c true ds s how)) in
      let e = settled (λ (x : LentTwo Steps). x.answer.code) _ both (refuse_steps dual primal) refl
      (step_rows_lem how d a dz ds z s dual primal c ok l m)
      in
      (e, step_meets c dz ds z s dual primal how d e);
  common_step_lem = λ cs primal dq q point s d ok l a.
      let e = settled (λ (x : Lent Found). x.answer.code) _ (found (costed_of (plan_of cs primal dq q s))) (refuse_found point) refl
      (plan-rows s d a dq q point cs ok l)
      in
      (e, common_meets cs primal dq q point s d e);
  plan_step_lem = λ cs dz ds z s dual primal how d ok l m a.
      let both = found_on_sides (in_sides cs (costed_of (sides_of cs dz ds z s how))) in
      let e = settled (λ (x : LentTwo Found). x.answer.code) _ both (refuse_sides dual primal) refl
      (sides_rows_lem how d a dz ds z s dual primal cs ok l m)
      in
      (e, plan_step_meets cs dz ds z s dual primal how d e);
}
