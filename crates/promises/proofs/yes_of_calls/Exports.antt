-- Order 12 of the exports: the contract equates what a call answers and leaves with the definition of which Order 12 is proved; its cone
-- and its numbers are doubles by their types. Assumes nothing.
use mathlib.Core.Path.{◌≡◌, sym, ap, ◌∙◌, subst}
use mathlib.Core.List.{List}
use lib.ListN.{length}
use mir.Val.{Val}
use denote.Array.{each}
use denote.Shadow.{shadow}
use denote.Builtin.{f64}
use Rattle.cone.specs.declared.Cone.{Cone}
use Rattle.cone.specs.declared.Found.{Found}
use Rattle.cone.specs.declared.verdict.Verdict.{Verdict}
use Rattle.cone.specs.words.Words.{cones_of}
use Rattle.judges.specs.Refusals.{Lent}
use Rattle.search.specs.plan.EachCone.{cone_at, part_of}
use Rattle.trace.proofs.entries.Passing.{elements_fit}
use Rattle.promises.specs.yes_of_calls.Points.{Held}
use Rattle.promises.specs.yes_of_calls.Searches.{StepCertain, BothCertain, PartsCertain}
use Rattle.promises.specs.yes_of_calls.Calls.{PrimalTestCall, DualTestCall, BacktrackSearchCall, StepLengthCall, CommonStepCall}
use Rattle.promises.specs.yes_of_calls.Calls.{PlanStepCall}
use Rattle.promises.specs.yes_of_calls.Calls.{CallsCertain}
use Rattle.promises.proofs.yes_of_calls.Feasibility.{feasibility_certain}
use Rattle.promises.proofs.yes_of_calls.Searches as single
use Rattle.promises.proofs.yes_of_calls.CommonStep as one_side
use Rattle.promises.proofs.yes_of_calls.PlanStep as both_sides

-- the relation of a cone that is passed, of its fifth field
held_of : (c : Cone) (us : List Val) → length c.exps ≡ 32 → shadow (each f64.Denot f64.own_val c.exps us) → Held c
held_of c us long each-Fits = record {
  places = long;
  doubles = λ i l. elements_fit c.exps us each-Fits i;
}

-- ---- entries that take a cone by value

primal_test : PrimalTestCall
primal_test κs a r x g p sizes =
    let places = g.0.1.1.1.1.1.1.0.1 in
    let told = feasibility_certain a.0 (held_of a.0 _ places.0.1 places.1) a.1.0.now (λ i l. p.1 i) sizes in
    record {
      yes = λ e. told.primal_yes (ap (λ (v : Verdict). v.answer) (sym p.0) ∙ e);
      no = λ e. told.primal_no (sym p.0 ∙ e);
    }

dual-test : DualTestCall
dual-test κs a r x g p sizes =
    let places = g.0.1.1.1.1.1.1.0.1 in
    let told = feasibility_certain a.0 (held_of a.0 _ places.0.1 places.1) a.1.0.now (λ i l. p.1 i) sizes in
    record {
      yes = λ e. told.dual_yes (ap (λ (v : Verdict). v.answer) (sym p.0) ∙ e);
      no = λ e. told.dual_no (sym p.0 ∙ e);
    }

backtrack_search_lem : BacktrackSearchCall
backtrack_search_lem κs a r x g p =
    let places = g.0.1.1.1.1.1.1.0.1 in
    subst (λ (l : Lent Found). StepCertain a.0 a.1.0 l.answer.step l.slice) (sym p)
    (single.search_certain a.0 (held_of a.0 _ places.0.1 places.1) a.1.0 a.1.1.0.now a.1.1.1.0.now
    a.1.1.1.1.0.now a.1.1.1.1.1.0)

step_length_lem : StepLengthCall
step_length_lem κs a r x g p =
    let places = g.0.1.1.1.1.1.1.0.1 in
    subst (BothCertain a.0) (sym p)
    (single.step_length_certain a.0 (held_of a.0 _ places.0.1 places.1) a.1.0.now a.1.1.0.now
    a.1.1.1.0.now a.1.1.1.1.0.now a.1.1.1.1.1.0.now a.1.1.1.1.1.1.0.now a.1.1.1.1.1.1.1.0)

-- ---- entries that take cones in memory

common_step_lem : CommonStepCall
common_step_lem κs a r x p i here =
    let cones = cones_of a.0.now in
    subst (λ (l : Lent Found). StepCertain (cone_at cones i) a.1.0 l.answer.step (part_of cones i l.slice)) (sym p)
    (one_side.common_step_certain a.0.now i here a.1.0 a.1.1.0.now a.1.1.1.0.now a.1.1.1.1.0.now
    a.1.1.1.1.1.0)

plan_step_lem : PlanStepCall
plan_step_lem κs a r x p i here =
    subst (PartsCertain (cones_of a.0.now) i) (sym p)
    (both_sides.plan_step_certain a.0.now i here a.1.0.now a.1.1.0.now a.1.1.1.0.now a.1.1.1.1.0.now
    a.1.1.1.1.1.0.now a.1.1.1.1.1.1.0.now a.1.1.1.1.1.1.1.0)

pub calls_certain : CallsCertain
calls_certain = record {
  primal_test = primal_test;
  dual-test = dual-test;
  backtrack_search_lem = backtrack_search_lem;
  step_length_lem = step_length_lem;
  common_step_lem = common_step_lem;
  plan_step_lem = plan_step_lem;
}
