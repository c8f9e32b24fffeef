-- The common step, and the step of both sides, look at the rules of their cones in row 1 alone: neither the length of a cone's part nor its
-- test reads the rule, so that lists which differ in their rules have one search. Assumes nothing.
use Prim.Native.Nat.{ℕ, zero, suc, ◌+◌, ◌<◌}
use native.Mathlib.Nat.{le_of_suc-le-suc, not-suc-le-zero}
use mathlib.Core.Path.{◌≡◌, refl, sym, ap, ◌∙◌, fun_ext}
use mathlib.Core.Bool.{Bool, true, false, cond, ◌&&◌, and-false}
use mathlib.Core.List.{List, [], ◌∷◌}
use lib.Dec.{leb}
use lib.Ieee.{Float}
use lib.ListN.{length, take, drop, length-map}
use Rattle.arith.proofs.Branches.{and_left, and_right, and_both}
use Rattle.cone.specs.declared.Cone.{Cone}
use Rattle.cone.specs.declared.Settings.{Settings}
use Rattle.cone.specs.Codes.{numel_of}
use Rattle.judges.specs.Judges.{rule1, rule2, rule_ok, cone_ok}
use Rattle.cone.specs.table.Table.{first_row, settle}
use Rattle.search.specs.plan.Plans.{total_of, all_cones_ok, most_cones, plan_ok, cone_passes, all_pass, tests_of}
use Rattle.search.specs.plan.EachCone.{cone_at}
use Rattle.search.specs.plan.Sides.{both_pass, both_tests, dual_side, primal_side}
use Rattle.call_search.specs.plans.Rows.{plan_faults, sides_faults}
use Rattle.call_search.specs.plans.Entries.{common_step_of, plan_step_of}
use Rattle.promises.specs.rules.Entries.{under}
use Rattle.promises.specs.rules.Rules.{all_under, OneStep, PlanAnswers, OneStepOfBoth, SidesAnswers}
use Rattle.promises.proofs.rules.Tolerances.{cone_takes}
use Rattle.promises.proofs.rules.Answers.{not_taken}

-- ---- what is taken

cones-take : (cs : List Cone) → all_cones_ok cs ≡ true → all_cones_ok (all_under rule1 cs) ≡ true
unfolding all_cones_ok
cones-take [] ok = refl
cones-take (c ∷ cs) ok =
    and_both (cone_ok (under rule1 c)) (all_cones_ok (all_under rule1 cs))
    (cone_takes c (and_left (cone_ok c) (all_cones_ok cs) ok))
    (cones-take cs (and_right (cone_ok c) (all_cones_ok cs) ok))

abbrev listed : ℕ → Bool
listed n = leb 1 n && leb n most_cones

takes : (cs : List Cone) → plan_ok cs ≡ true → plan_ok (all_under rule1 cs) ≡ true
unfolding plan_ok
takes cs ok =
    let n = length cs in
    ap (λ (k : ℕ). listed k && all_cones_ok (all_under rule1 cs)) (length-map cs (under rule1))
    ∙ and_both (listed n) (all_cones_ok (all_under rule1 cs))
    (and_left (listed n) (all_cones_ok cs) ok) (cones-take cs (and_right (listed n) (all_cones_ok cs) ok))

-- ---- what is searched

module _ (rule : ℕ) where
  total_same : (cs : List Cone) → total_of (all_under rule cs) ≡ total_of cs
  unfolding total_of numel_of
  total_same [] = refl
  total_same (c ∷ cs) = ap (λ (n : ℕ). numel_of c + n) (total_same cs)

  pass_same : (cs : List Cone) (primal : Bool) (p : List Float) → all_pass (all_under rule cs) primal p ≡ all_pass cs primal p
  unfolding all_pass numel_of
  pass_same [] primal p = refl
  pass_same (c ∷ cs) primal p =
      ap (λ (b : Bool). cond (cone_passes c primal (take (numel_of c) p)) b false) (pass_same cs primal (drop (numel_of c) p))

  tests_same : (cs : List Cone) (primal : Bool) (p : List Float) → tests_of (all_under rule cs) primal p ≡ tests_of cs primal p
  unfolding tests_of numel_of
  tests_same [] primal p = refl
  tests_same (c ∷ cs) primal p =
      ap (λ (n : ℕ). suc (cond (cone_passes c primal (take (numel_of c) p)) n 0)) (tests_same cs primal (drop (numel_of c) p))

  rules_replaced : (other : ℕ) (cs : List Cone) → all_under rule (all_under other cs) ≡ all_under rule cs
  rules_replaced other [] = refl
  rules_replaced other (c ∷ cs) = ap (λ (l : List Cone). under rule c ∷ l) (rules_replaced other cs)

all_under_1 : (cs : List Cone) → plan_ok cs ≡ true → OneStep cs (all_under rule1 cs)
unfolding common_step_of plan_faults
all_under_1 cs ok primal dq q point s =
    rw (ok, takes cs ok, total_same rule1 cs, fun_ext (pass_same rule1 cs primal), fun_ext (tests_same rule1 cs primal))

-- ---- what is refused

not_all : (cs : List Cone) (i : ℕ) → i < length cs → rule_ok (cone_at cs i).rule ≡ false → all_cones_ok cs ≡ false
unfolding all_cones_ok
not_all [] i l bad = absurd (not-suc-le-zero l)
not_all (c ∷ cs) zero l bad = rw (not_taken c bad)
not_all (c ∷ cs) (suc i) l bad = rw (not_all cs i (le_of_suc-le-suc l) bad) (and-false (cone_ok c))

not_planned : (cs : List Cone) (i : ℕ) → i < length cs → rule_ok (cone_at cs i).rule ≡ false → plan_ok cs ≡ false
unfolding plan_ok
not_planned cs i l bad = rw (not_all cs i l bad) (and-false (listed (length cs)))

another : (cs : List Cone) (i : ℕ) → i < length cs → rule_ok (cone_at cs i).rule ≡ false
    → (primal : Bool) (dq q point : List Float) (s : Settings) → (common_step_of cs primal dq q point s).answer.code ≡ 1
unfolding common_step_of plan_faults first_row settle
another cs i l bad primal dq q point s = rw (not_planned cs i l bad)

pub plan_answers : PlanAnswers
plan_answers = record {
  takes = takes;
  in_row_one = λ cs ds e ok ok' primal dq q point s.
      all_under_1 cs ok primal dq q point s
      ∙ ap (λ (l : List Cone). common_step_of l primal dq q point s) e
      ∙ sym (all_under_1 ds ok' primal dq q point s);
  equal = λ cs ok primal dq q point s.
      all_under_1 (all_under rule2 cs) ok primal dq q point s
      ∙ ap (λ (l : List Cone). common_step_of l primal dq q point s) (rules_replaced rule1 rule2 cs);
  another = another;
}

-- ---- both sides

module _ (rule : ℕ) (cs : List Cone) where
  both_same : (p : List Float) → both_pass (all_under rule cs) (dual_side (all_under rule cs) p) (primal_side (all_under rule cs) p)
      ≡ both_pass cs (dual_side cs p) (primal_side cs p)
  unfolding both_pass
  both_same p = rw (total_same rule cs, pass_same rule cs false (dual_side cs p), pass_same rule cs true (primal_side cs p))

  counts_same : (p : List Float) → both_tests (all_under rule cs) (dual_side (all_under rule cs) p) (primal_side (all_under rule cs) p)
      ≡ both_tests cs (dual_side cs p) (primal_side cs p)
  unfolding both_tests
  counts_same p =
      rw (
        total_same rule cs,
        pass_same rule cs false (dual_side cs p),
        tests_same rule cs false (dual_side cs p),
        tests_same rule cs true (primal_side cs p),
      )

both_under_1 : (cs : List Cone) → plan_ok cs ≡ true → OneStepOfBoth cs (all_under rule1 cs)
unfolding plan_step_of sides_faults
both_under_1 cs ok dz ds z s dual_point primal_point settings =
    rw (ok, takes cs ok, fun_ext (both_same rule1 cs), fun_ext (counts_same rule1 cs), total_same rule1 cs)

another_of_both : (cs : List Cone) (i : ℕ) → i < length cs → rule_ok (cone_at cs i).rule ≡ false
    → (dz ds z s dual_point primal_point : List Float) (settings : Settings)
    → (plan_step_of cs dz ds z s dual_point primal_point settings).answer.code ≡ 1
unfolding plan_step_of sides_faults first_row settle
another_of_both cs i l bad dz ds z s dual_point primal_point settings = rw (not_planned cs i l bad)

pub sides_answers : SidesAnswers
sides_answers = record {
  in_row_one = λ cs other e ok ok' dz ds z s dual_point primal_point settings.
      both_under_1 cs ok dz ds z s dual_point primal_point settings
      ∙ ap (λ (l : List Cone). plan_step_of l dz ds z s dual_point primal_point settings) e
      ∙ sym (both_under_1 other ok' dz ds z s dual_point primal_point settings);
  equal = λ cs ok dz ds z s dual_point primal_point settings.
      both_under_1 (all_under rule2 cs) ok dz ds z s dual_point primal_point settings
      ∙ ap (λ (l : List Cone). plan_step_of l dz ds z s dual_point primal_point settings) (rules_replaced rule1 rule2 cs);
  another = another_of_both;
}
