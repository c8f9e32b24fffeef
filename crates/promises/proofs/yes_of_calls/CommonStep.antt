-- Order 12 of the common step: where the step is not +0 every cone of the list has passed on its part of the point, and that part is the
-- point of a trial of the cone alone, as long as the cone's points are. Assumes nothing.
use mathlib.Core.Path.{◌≡◌, refl, ap, ◌∙◌}
use mathlib.Core.Bool.{Bool, true, ◌&&◌}
use mathlib.Core.List.{List, [], ◌∷◌}
use Prim.Native.Nat.{ℕ, zero, suc, ◌≤◌, ◌<◌}
use native.Mathlib.Nat.{le_of_suc-le-suc, not-suc-le-zero}
use native.Mathlib.Omega.{arith}
use lib.Dec.{leb}
use lib.Ieee.{Float}
use lib.ListN.{length, drop, length-drop}
use lib.Seq.{length-take-le}
use borrow.Author.Tests.{not-false}
use Rattle.arith.proofs.Branches.{and_left, and_right}
use Rattle.cone.specs.declared.Cone.{Cone}
use Rattle.cone.specs.declared.Settings.{Settings}
use Rattle.cone.specs.Codes.{numel_of}
use Rattle.cone.specs.words.Words.{cones_of}
use Rattle.cone.specs.table.Table.{settle}
use Rattle.cone.proofs.table.Settled.{no_fault}
use Rattle.judges.specs.Judges.{cone_ok}
use Rattle.search.specs.trials.Search.{search_of}
use Rattle.search.specs.trials.Costed.{costed_of}
use Rattle.kinds.specs.Answers.{answer_of}
use Rattle.kinds.specs.Passes.{passes_in}
use Rattle.call_search.specs.single.Entries.{found, refuse_found}
use Rattle.search.specs.Points.{trial_point}
use Rattle.search.proofs.Points.{length-point}
use Rattle.search.specs.plan.Plans.{total_of, all_cones_ok, most_cones, plan_ok, all_pass, plan_problem, plan_of}
use Rattle.search.specs.plan.EachCone.{cone_at, part_of}
use Rattle.search.proofs.plan.EachCone.{tested_in_order, parts_of_trials}
use Rattle.call_search.specs.plans.Rows.{plan_faults, plan_rows}
use Rattle.call_search.specs.plans.Entries.{common_step_of}
use Rattle.call_search.proofs.plans.LetThrough.{plannable}
use Rattle.promises.specs.yes_of_calls.Points.{Held, AllInRange, ExactlyInside}
use Rattle.promises.specs.yes_of_calls.Searches.{StepCertain, CommonStepCertain}
use Rattle.promises.proofs.yes_of_calls.Accepted.{Accepted, held_in_list}
use Rattle.promises.proofs.yes_of_calls.Tests.{yes_inside}
use Rattle.promises.proofs.yes_of_calls.Searches.{searched, trial_doubles, yes_of}

-- ---- a list of cones that row 1 takes

each_ok : (cs : List Cone) → all_cones_ok cs ≡ true → (i : ℕ) → i < length cs → cone_ok (cone_at cs i) ≡ true
unfolding all_cones_ok
each_ok [] ok i l = absurd (not-suc-le-zero l)
each_ok (c ∷ cs) ok zero l = and_left (cone_ok c) (all_cones_ok cs) ok
each_ok (c ∷ cs) ok (suc i) l = each_ok cs (and_right (cone_ok c) (all_cones_ok cs) ok) i (le_of_suc-le-suc l)

pub ok_in_plan : (cs : List Cone) → plan_ok cs ≡ true → (i : ℕ) → i < length cs → cone_ok (cone_at cs i) ≡ true
unfolding plan_ok
ok_in_plan cs ok = each_ok cs (and_right (leb 1 (length cs) && leb (length cs) most_cones) (all_cones_ok cs) ok)

part_long : (cs : List Cone) (i : ℕ) → i < length cs → (p : List Float) → total_of cs ≤ length p
    → length (part_of cs i p) ≡ numel_of (cone_at cs i)
unfolding total_of part_of
part_long [] i l p h = absurd (not-suc-le-zero l)
part_long (c ∷ cs) zero l p h = length-take-le (numel_of c) p (omega arith)
part_long (c ∷ cs) (suc i) l p h =
    part_long cs i (le_of_suc-le-suc l) (drop (numel_of c) p) (omega (arith, length-drop (numel_of c) p))

-- ---- cone i of the list

module _ (cs : List Cone) (i : ℕ) (here : i < length cs) (held : Held (cone_at cs i)) (plan-ok : plan_ok cs ≡ true) where
  -- all pass at the point of a trial, so this one does on its part
  pub part_inside : (primal : Bool) (dq q : List Float) (α : Float) (p : List Float) → length dq ≡ length q → total_of cs ≡ length q
      → p ≡ trial_point q dq α → all_pass cs primal p ≡ true → AllInRange (part_of cs i p)
      → ExactlyInside (cone_at cs i) primal (part_of cs i p)
  unfolding passes_in
  part_inside primal dq q α p same long is passed r =
      let part = part_of cs i p in
      let moved = ap (part_of cs i) is ∙ parts_of_trials cs i q dq α same in
      let passes = (tested_in_order cs primal p).each_if_all passed i here in
      let accepted : Accepted (cone_at cs i) part =
      record {
        held = held;
        ok = ok_in_plan cs plan-ok i here;
        long = part_long cs i here p (omega (arith, long, ap length is ∙ length-point q dq α same));
        doubles = trial_doubles (part_of cs i q) α (part_of cs i dq) part moved;
        sizes = r;
      } in
      yes_inside (cone_at cs i) part accepted primal (yes_of (answer_of (cone_at cs i) primal part) passes)

  part_certain : (primal : Bool) (dq q : List Float) (s : Settings) → length dq ≡ length q → total_of cs ≡ length q
      → let o = search_of (plan_problem cs primal dq q s) in
      StepCertain (cone_at cs i) primal o.step (part_of cs i o.point)
  part_certain primal dq q s same long h =
      let t = searched (plan_problem cs primal dq q s) h in
      part_inside primal dq q _ _ same long t.is t.passes

plan-taken : (cs : List Cone) (dq q : List Float) (n : ℕ) (s : Settings) → plan_rows cs dq q n s ≡ 0 → plan_ok cs ≡ true
unfolding plan_faults
plan-taken cs dq q n s e = not-false _ (no_fault (plan_faults cs dq q n s) e).cone

-- k is the number of the call's rows
pub common_step_certain : CommonStepCertain
unfolding common_step_of costed_of settle
common_step_certain words i here primal dq q point s = go (plan_rows cs dq q (length point) s) refl
  where
    cs : List Cone
    cs = cones_of words

    go :
        (k : ℕ) → plan_rows cs dq q (length point) s ≡ k
        → let l = settle k (found (costed_of (plan_of cs primal dq q s))) (refuse_found point) in
        StepCertain (cone_at cs i) primal l.answer.step (part_of cs i l.slice)
    go zero e =
        let ready = plannable cs dq q point s e in
        part_certain cs i here (held_in_list words i here) (plan-taken cs dq q (length point) s e) primal dq q s
        ready.searchable.dq_length ready.lengths_add_up
    go (suc k) e = λ h r. absurd (h refl)
