-- What a contract allows is what the definition makes of which Order 9 is proved. Assumes nothing.
use mathlib.Core.Path.{◌≡◌, refl, ◌∙◌, sym, ap}
use Rattle.cone.specs.declared.Cone.{Cone}
use Rattle.cone.specs.declared.Found.{Found}
use Rattle.judges.specs.Judges.{rule1, rule2}
use Rattle.judges.specs.Refusals.{Lent, LentTwo}
use Rattle.promises.specs.rules.Entries.{Entry, Answered, call, under, carrying}
use Rattle.promises.specs.rules.Entries.{fresh, is_primal_feasible, is_dual_feasible, barrier_dual, dual_grad_h, unit_initialization}
use Rattle.promises.specs.rules.Entries.{rectify_equilibration, affine_ds, ds_from_dz_offset, backtrack_search, step_length, update_scaling}
use Rattle.promises.specs.rules.Entries.{gradient_primal, barrier_primal, compute_barrier, get_hs, mul_hs, higher_correction}
use Rattle.promises.specs.rules.Entries.{combined_ds_shift}
use Rattle.promises.specs.rules.Entries.{code_of}
use Rattle.promises.specs.rules.Calls.{passed, With, GivesOne, Alike, CallsUnderRules}
use Rattle.promises.specs.demand_one.Calls.{Call, made, number_in, number_of, answered, common, both}
use Rattle.promises.proofs.allowed.Defined.{as_defined}
use Rattle.promises.proofs.rules.Answers.{answers}
use Rattle.promises.proofs.rules.PlanAnswers.{plan_answers, sides_answers}

-- a call reads no cone of a record but its own
passed_same : (c : Cone) (e : Entry) → call (passed c e) c ≡ call e c
unfolding call passed
passed_same c fresh = refl
passed_same c (is_primal_feasible s) = refl
passed_same c (is_dual_feasible z) = refl
passed_same c (barrier_dual z) = refl
passed_same c (dual_grad_h z) = refl
passed_same c (unit_initialization z s) = refl
passed_same c (rectify_equilibration δ e) = refl
passed_same c (affine_ds ds s) = refl
passed_same c (ds_from_dz_offset out ds z) = refl
passed_same c (backtrack_search primal dq q point how) = refl
passed_same c (step_length dz ds z s dual_point primal_point how) = refl
passed_same c (update_scaling r s z μ strategy) = refl
passed_same c (gradient_primal r g s) = refl
passed_same c (barrier_primal r s) = refl
passed_same c (compute_barrier r z s dz ds step) = refl
passed_same c (get_hs r serial block) = refl
passed_same c (mul_hs r serial y x) = refl
passed_same c (higher_correction r serial η ds v) = refl
passed_same c (combined_ds_shift r serial out stepz steps σμ) = refl

with_made : (c : Cone) (e : Entry) (a : Answered) → With c e a → a ≡ call e c
unfolding made
with_made c e a h =
    let allowed : answered a ≡ answered (call (passed c e) c) = as_defined _ _ h in
    cc (passed_same c e)

gives_one : (a : Call) → number_of a ≡ 1 → GivesOne a
gives_one a e o h = ap number_in (as_defined a o h) ∙ e

alike : (a b : Call) → made a ≡ made b → Alike a b
alike a b e o p h k = as_defined a o h ∙ e ∙ sym (as_defined b p k)

pub calls_under_rules : CallsUnderRules
unfolding made number_in
calls_under_rules = record {
  in_row_one = λ e c rule a b ok ok' h k.
      with_made (under rule c) e b k
      ∙ answers.in_row_one e c rule ok ok'
      ∙ ap (carrying rule) (sym (with_made c e a h));
  equal = λ e c two one ok h k.
      with_made (under rule2 c) e two h
      ∙ answers.equal e c ok
      ∙ ap (carrying rule2) (sym (with_made (under rule1 c) e one k));
  another = λ e c bad. gives_one _ (ap code_of (passed_same c e) ∙ answers.another e c bad);
  common_equal = λ cs primal dq q point s ok. alike _ _ (ap (λ (l : Lent Found). common l) (plan_answers.equal cs ok primal dq q point s));
  common_another = λ cs i h bad primal dq q point s. gives_one _ (plan_answers.another cs i h bad primal dq q point s);
  plan_equal = λ cs dz ds z s dual_point primal_point how ok.
      alike _ _ (ap (λ (l : LentTwo Found). both l) (sides_answers.equal cs ok dz ds z s dual_point primal_point how));
  plan_another = λ cs i h bad dz ds z s dual_point primal_point how.
      gives_one _ (sides_answers.another cs i h bad dz ds z s dual_point primal_point how);
}
