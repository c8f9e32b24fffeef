-- Every cone's point: all pass exactly if each passes on its part, the tests go to the first that fails, and the parts of a trial's point
-- are the trial's points of the parts (specs/plan/EachCone). Assumes nothing.
use mathlib.Core.Path.{◌≡◌, refl, sym, ap, ◌∙◌}
use mathlib.Core.Bool.{Bool, true, false}
use mathlib.Core.List.{List, [], ◌∷◌}
use Prim.Native.Nat.{ℕ, zero, suc, ◌*◌, ◌≤◌, ◌<◌}
use native.Mathlib.Nat.{le_of_suc-le-suc, not-suc-le-zero, suc-le-suc_iff, zero-lt-suc}
use native.Mathlib.Omega.{arith}
use lib.ListN.{length, take, drop, length-drop}
use lib.Ieee.{Float}
use Rattle.arith.proofs.Branches.{false_not_true}
use Rattle.algebra.specs.Vectors.{moved_of}
use Rattle.cone.specs.declared.Cone.{Cone}
use Rattle.cone.specs.declared.Settings.{Settings}
use Rattle.cone.specs.Codes.{numel_of}
use Rattle.search.specs.trials.Trials.{bound, Usable}
use Rattle.search.specs.trials.Costed.{costed_of}
use Rattle.search.proofs.trials.LargestPassing.{largest_passing}
use Rattle.search.proofs.Points.{take-point, drop-point}
use Rattle.search.specs.plan.Plans.{cone_passes, all_pass, tests_of, plan_of}
use Rattle.search.specs.plan.EachCone.{part_of, part_passes, TestedInOrder, PartsOfTrials}
use Rattle.search.proofs.plan.Plans.{tests_most, pass_on, pass_ends, tests_on, tests_end}

module _ (primal : Bool) where
  all_if_each : (cs : List Cone) (p : List Float) → ((i : ℕ) → i < length cs → part_passes cs primal p i ≡ true)
      → all_pass cs primal p ≡ true
  unfolding all_pass part_of
  all_if_each [] p h = refl
  all_if_each (c ∷ cs) p h =
      pass_on c cs primal p (h 0 (zero-lt-suc (length cs)))
      ∙ all_if_each cs (drop (numel_of c) p) (λ i l. h (suc i) (suc-le-suc_iff.1 l))

  first_passes : (c : Cone) (cs : List Cone) (p : List Float) → all_pass (c ∷ cs) primal p ≡ true
      → cone_passes c primal (take (numel_of c) p) ≡ true
  first_passes c cs p e = go (cone_passes c primal (take (numel_of c) p)) refl
    where
      go : (b : Bool) → cone_passes c primal (take (numel_of c) p) ≡ b → b ≡ true
      go true q = refl
      go false q = absurd (false_not_true (sym (pass_ends c cs primal p q) ∙ e))

  rest-passes : (c : Cone) (cs : List Cone) (p : List Float) → all_pass (c ∷ cs) primal p ≡ true
      → all_pass cs primal (drop (numel_of c) p) ≡ true
  rest-passes c cs p e = sym (pass_on c cs primal p (first_passes c cs p e)) ∙ e

  each_if_all : (cs : List Cone) (p : List Float) → all_pass cs primal p ≡ true
      → (i : ℕ) → i < length cs → part_passes cs primal p i ≡ true
  unfolding part_of
  each_if_all [] p e i l = absurd (not-suc-le-zero l)
  each_if_all (c ∷ cs) p e zero l = first_passes c cs p e
  each_if_all (c ∷ cs) p e (suc i) l = each_if_all cs (drop (numel_of c) p) (rest-passes c cs p e) i (le_of_suc-le-suc l)

  tests_of_all : (cs : List Cone) (p : List Float) → all_pass cs primal p ≡ true → tests_of cs primal p ≡ length cs
  unfolding tests_of
  tests_of_all [] p e = refl
  tests_of_all (c ∷ cs) p e =
      tests_on c cs primal p (first_passes c cs p e) ∙ ap suc (tests_of_all cs (drop (numel_of c) p) (rest-passes c cs p e))

  tests_to_first : (cs : List Cone) (p : List Float) (i : ℕ) → i < length cs → part_passes cs primal p i ≡ false
      → ((j : ℕ) → j < i → part_passes cs primal p j ≡ true) → tests_of cs primal p ≡ suc i
  unfolding part_of
  tests_to_first [] p i l e h = absurd (not-suc-le-zero l)
  tests_to_first (c ∷ cs) p zero l e h = tests_end c cs primal p e
  tests_to_first (c ∷ cs) p (suc i) l e h =
      tests_on c cs primal p (h 0 (zero-lt-suc i))
      ∙ ap suc (tests_to_first cs (drop (numel_of c) p) i (le_of_suc-le-suc l) e (λ j k. h (suc j) (suc-le-suc_iff.1 k)))

pub tested_in_order : (cs : List Cone) (primal : Bool) (p : List Float) → TestedInOrder cs primal p
tested_in_order cs primal p = record {
  all_if_each = all_if_each primal cs p;
  each_if_all = each_if_all primal cs p;
  tests_of_all = tests_of_all primal cs p;
  tests_to_first = λ i f. tests_to_first primal cs p i f.in_list f.fails f.passed_before;
}

pub parts_of_trials : PartsOfTrials
unfolding part_of moved_of
parts_of_trials [] i q dq α h = refl
parts_of_trials (c ∷ cs) zero q dq α h = take-point (numel_of c) q dq α
parts_of_trials (c ∷ cs) (suc i) q dq α h =
    let n = numel_of c in
    ap (part_of cs i) (drop-point n q dq α h)
    ∙ parts_of_trials cs i (drop n q) (drop n dq) α (omega (arith, length-drop n q, length-drop n dq))

-- 02, Order 10: "Their number is at most the number of cones times the bound for one search"
pub tests_at_most : (cs : List Cone) (primal : Bool) (dq q : List Float) (how : Settings) → Usable how
    → (costed_of (plan_of cs primal dq q how)).count ≤ length cs * bound how
tests_at_most cs primal dq q how ok =
    (largest_passing (plan_of cs primal dq q how) ok).tests_bounded (length cs) (tests_most cs primal)
