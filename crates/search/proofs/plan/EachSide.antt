-- Both sides pass exactly if each cone passes on both of its parts, the tests go to the first that fails, they are at most two a cone, and
-- how the step of both stands to the two sides' own (specs/plan/EachSide). Assumes nothing.
use mathlib.Core.Path.{◌≡◌, refl, sym, ap, ◌∙◌, subst}
use mathlib.Core.Bool.{Bool, true, false}
use mathlib.Core.List.{List}
use Prim.Native.Nat.{ℕ, suc, ◌+◌, ◌*◌, ◌≤◌}
use native.Mathlib.Omega.{arith}
use lib.ListN.{length}
use lib.Ieee.{Float}
use Rattle.arith.proofs.Branches.{false_not_true}
use Rattle.double.specs.Numbers.{#0}
use Rattle.cone.specs.declared.Cone.{Cone}
use Rattle.cone.specs.declared.Settings.{Settings}
use Rattle.search.specs.trials.Trials.{bound, Usable}
use Rattle.search.specs.trials.Search.{Problem, Outcome, passes_at, search_of}
use Rattle.search.specs.trials.FirstPassing.{First}
use Rattle.search.specs.trials.Costed.{costed_of}
use Rattle.search.proofs.trials.Walk.{trial_of, Ended, passed, failed, ended}
use Rattle.search.proofs.trials.FirstPassing.{first_passing, last_of, none_of}
use Rattle.search.proofs.trials.LargestPassing.{largest_passing, search-largest}
use Rattle.search.specs.Points.{trial_point}
use Rattle.search.specs.plan.Plans.{total_of, all_pass, tests_of, plan_problem}
use Rattle.search.specs.plan.EachCone.{FirstFailing}
use Rattle.search.specs.plan.Sides.{both_pass, both_tests, sides_problem, sides_of}
use Rattle.search.specs.plan.EachSide.{BothInOrder, NotAbove, BesideTwo}
use Rattle.search.proofs.plan.EachCone.{tested_in_order}
use Rattle.search.proofs.plan.Sides.{dual-passed, primal_passed, both_most, passes_at_lem}

module _ (cs : List Cone) (dual primal : List Float) where
  abbrev on_dual : Bool
  on_dual = all_pass cs false dual

  abbrev on_primal : Bool
  on_primal = all_pass cs true primal

  pub both_pass_lem : on_dual ≡ true → on_primal ≡ true → both_pass cs dual primal ≡ true
  unfolding both_pass
  both_pass_lem e f = rw (e, f)

  both-off : on_dual ≡ false → both_pass cs dual primal ≡ false
  unfolding both_pass
  both-off e = rw e

  tests_on : on_dual ≡ true → (n : ℕ) → tests_of cs true primal ≡ n → both_tests cs dual primal ≡ length cs + n
  unfolding both_tests
  tests_on e n f = rw (e, f, (tested_in_order cs false dual).tests_of_all e)

  fails : (i : ℕ) → FirstFailing cs false dual i → on_dual ≡ false
  fails i f = go on_dual refl
    where
      go : (b : Bool) → on_dual ≡ b → b ≡ false
      go true e = absurd (false_not_true (sym f.fails ∙ (tested_in_order cs false dual).each_if_all e i f.in_list))
      go false e = refl

  tests_end : (i : ℕ) → FirstFailing cs false dual i → both_tests cs dual primal ≡ suc i
  unfolding both_tests
  tests_end i f = rw (fails i f, (tested_in_order cs false dual).tests_to_first i f) (omega arith)

  pub both_in_order : BothInOrder cs dual primal
  both_in_order =
      let d = tested_in_order cs false dual in
      let p = tested_in_order cs true primal in
      record {
        both_if_each = λ h. both_pass_lem (d.all_if_each (λ i l. (h i l).0)) (p.all_if_each (λ i l. (h i l).1));
        each_if_both = λ e i l. (d.each_if_all (dual-passed cs dual primal e) i l, p.each_if_all (primal_passed cs dual primal e) i l);
        tests_of-both =
            λ e. tests_on (dual-passed cs dual primal e) _ (p.tests_of_all (primal_passed cs dual primal e)) ∙ twice (length cs);
        tests_to_dual = tests_end;
        tests_to_primal = λ i e f. tests_on e _ (p.tests_to_first i f);
      }
    where
      twice : (n : ℕ) → n + n ≡ 2 * n
      twice n = omega arith

module _ (cs : List Cone) (dz ds z s : List Float) (how : Settings) (ok : Usable how) where
  -- 01: "Single tests are counted, at most 2 · cones · the bound of one search"
  pub sides_at_most : (costed_of (sides_of cs dz ds z s how)).count ≤ 2 * length cs * bound how
  sides_at_most =
      (largest_passing (sides_of cs dz ds z s how) ok).tests_bounded (2 * length cs) (λ p. both_most cs _ _)

-- ---- beside the two sides' own searches

module _ (cs : List Cone) (dz ds z s : List Float) (how : Settings) (ok : Usable how) (same : length dz ≡ length z)
    (long : total_of cs ≡ length z) where
  abbrev B : Problem
  B = sides_problem cs dz ds z s how

  abbrev D : Problem
  D = plan_problem cs false dz z how

  abbrev Q : Problem
  Q = plan_problem cs true ds s how

  -- at a trial, both sides
  passes_as : (α : Float) → passes_at B α ≡ both_pass cs (trial_point z dz α) (trial_point s ds α)
  passes_as α = passes_at_lem cs dz ds z s how α same long

  dual-off : (α : Float) → passes_at D α ≡ false → passes_at B α ≡ false
  dual-off α f = passes_as α ∙ both-off cs (trial_point z dz α) (trial_point s ds α) f

  above_neither : Ended B → ((search_of B).step ≡ #0 → ⊥)
      → NotAbove (search_of B).step (search_of D).step × NotAbove (search_of B).step (search_of Q).step
  above_neither (passed n r p e) h =
      let both = sym (passes_as (trial_of B n)) ∙ p in
      subst (λ (o : Outcome). NotAbove o.step (search_of D).step × NotAbove o.step (search_of Q).step) (sym e) (
        (search-largest D ok).largest n r.allowed (dual-passed cs _ _ both),
        (search-largest Q ok).largest n r.allowed (primal_passed cs _ _ both),
      )
  above_neither (failed n r p c e) h = absurd (h (ap (λ (o : Outcome). o.step) e))

  same_if_equal : Ended D → Ended Q → (search_of D).step ≡ (search_of Q).step → (search_of B).step ≡ (search_of D).step
  same_if_equal (passed n r p e) (passed m r' p' e') h =
      let same_trial : trial_of D n ≡ trial_of Q m = sym (ap (λ (o : Outcome). o.step) e) ∙ h ∙ ap (λ (o : Outcome). o.step) e' in
      let primal = subst (λ (α : Float). passes_at Q α ≡ true) (sym same_trial) p' in
      let first : First B n = record {
        allowed = r.allowed;
        passes = passes_as (trial_of D n) ∙ both_pass_lem cs _ _ p primal;
        none_before = λ j l. dual-off (trial_of D j) (r.failed j l);
      }
      in
      (first_passing B ok).returns_first n first ∙ sym (ap (λ (o : Outcome). o.step) e)
  same_if_equal (passed n r p e) (failed m r' p' c' e') h =
      let none = (first_passing D ok).none_if_zero (h ∙ ap (λ (o : Outcome). o.step) e') in
      absurd (false_not_true (sym (none n r.allowed) ∙ p))
  same_if_equal (failed n r p c e) q h =
      let none = none_of D n r p (last_of D n r c) in
      (first_passing B ok).zero_if_none (λ k a. dual-off (trial_of D k) (none k a)) ∙ sym (ap (λ (o : Outcome). o.step) e)

pub beside_two : BesideTwo
unfolding costed_of
beside_two cs dz ds z s how ok same long = record {
  above_neither = above_neither cs dz ds z s how ok same long (ended (sides_problem cs dz ds z s how) ok);
  same_if_equal =
      same_if_equal cs dz ds z s how ok same long (ended (plan_problem cs false dz z how) ok) (ended (plan_problem cs true ds s how) ok);
}
