-- One step for both sides, of the entry: a call with number 0 was let through by its rows, so its answer is the search's, and its settings
-- are usable. Assumes nothing.
use mathlib.Core.Path.{◌≡◌, refl, sym, ap, subst, ◌∙◌}
use mathlib.Core.Logic.{◌⊎◌, inl, inr}
use mathlib.Core.Bool.{true, false}
use mathlib.Core.List.{List, [], ◌∷◌}
use Prim.Native.Nat.{ℕ, zero, suc}
use lib.Ieee.{Float}
use lib.Ieee.Positive.{positive-finite}
use lib.ListN.{length, take-append-drop}
use denote.Triple.Clauses.{AtExit}
use contract.Lifetimes.{Lfts}
use borrow.Fn.Kinds.{Dens, GoodsP, res_t, ended_of}
use Rattle.cone.specs.declared.Cone.{Cone}
use Rattle.cone.specs.declared.Settings.{Settings}
use Rattle.cone.specs.declared.Found.{Found}
use Rattle.cone.specs.declared.Steps.{Steps}
use Rattle.judges.specs.Judges.{all_finite}
use Rattle.judges.specs.Refusals.{LentTwo}
use Rattle.cone.specs.table.Table.{settle}
use Rattle.cone.proofs.table.Settled.{done}
use Rattle.cone.specs.words.Words.{cones_of}
use Rattle.search.specs.trials.Trials.{Usable}
use Rattle.search.specs.trials.Search.{Problem, Outcome, outcome, search_of}
use Rattle.search.specs.trials.Costed.{Costed, with_costs, costed_of}
use Rattle.search.specs.trials.LargestPassing.{LargestPassing}
use Rattle.search.proofs.trials.Trials.{trial_positive}
use Rattle.search.proofs.trials.Walk.{trial_of, Ended, passed, failed, ended}
use Rattle.search.proofs.trials.FirstPassing.{last_of, none_of}
use Rattle.search.proofs.trials.LargestPassing.{largest_passing}
use Rattle.search.specs.Points.{trial_point, all_numbers}
use Rattle.search.specs.Problems.{problem_of}
use Rattle.search.proofs.Points.{length-point}
use Rattle.search.proofs.Settings.{of_true, usable_of}
use Rattle.search.proofs.NoNan.{finite_numbers, searched_step, point-numbers}
use Rattle.call_search.specs.single.Rows.{step_faults, step_rows}
use Rattle.call_search.specs.single.Entries.{found, refuse_found, both_found, refuse_steps, step_length_of}
use Rattle.call_search.specs.single.Demand3.{Doubles}
use Rattle.call_search.proofs.single.Demand3.{let_through}
use Rattle.search.specs.plan.Plans.{total_of, plan_of}
use Rattle.search.specs.plan.Sides.{sides_problem, sides_of, in_sides}
use Rattle.search.specs.plan.EachSide.{Beside}
use Rattle.search.proofs.plan.Sides.{dual-of, primal_of, passes_at_lem}
use Rattle.search.proofs.plan.EachSide.{both_in_order, sides_at_most, beside_two}
use Rattle.search.proofs.plan.OneCone.{one-cone}
use Rattle.call_search.specs.plans.Rows.{plan_rows, sides_faults, sides_rows}
use Rattle.call_search.specs.plans.Entries.{common_step_of, found_on_sides, refuse_sides, plan_step_of}
use Rattle.call_search.specs.plans.PlanStep.{HoldsTested, HoldsStart, BothAsOrdered, PlanStepMeets, BesideTwoSteps, OneConeBothSides}
use Rattle.call_search.proofs.plans.LetThrough.{finite_slices, each_side, both_plannable}
use Rattle.call_search.proofs.plans.OneCone.{ok_one, total-one}
use Rattle.call_search.proofs.plans.plan_step.Kinds as kinds
use Rattle.call_search.proofs.plans.plan_step.Reads as step

-- ---- how the search ends

module _ (cs : List Cone) (dz ds z s : List Float) (settings : Settings) (ok : Usable settings) (same : length dz ≡ length z)
    (long : total_of cs ≡ length z) where
  abbrev P : Problem
  P = sides_problem cs dz ds z s settings

  -- what a search with this outcome leaves
  abbrev leaves : Outcome → LentTwo Found
  leaves o = found_on_sides (in_sides cs (with_costs (sides_of cs dz ds z s settings) o))

  abbrev EndsWith : Outcome → Type 0
  EndsWith o =
      (HoldsTested cs dz ds z s settings (leaves o) ⊎ HoldsStart cs dz ds z s settings (leaves o))
      × (all_numbers (leaves o).first ≡ true)
      × (all_numbers (leaves o).second ≡ true)

  ends : all_finite dz ≡ true → all_finite ds ≡ true → all_finite z ≡ true → all_finite s ≡ true → EndsWith (search_of P)
  ends fdz fds fz fs = go (ended P ok)
    where
      go : Ended P → EndsWith (search_of P)
      go (passed n r p e) =
          let α = trial_of P n in
          let d = dual-of cs (trial_point z dz α) (trial_point s ds α) (long ∙ sym (length-point z dz α same)) in
          let q = primal_of cs (trial_point z dz α) (trial_point s ds α) (long ∙ sym (length-point z dz α same)) in
          let f = positive-finite α (trial_positive settings ok n r.allowed) in
          subst EndsWith (sym e) (
            inl (record { dual-point = d; primal_point = q; each_passes = (both_in_order cs _ _).each_if_both p }),
            ap all_numbers d ∙ point-numbers z dz α fz fdz f,
            ap all_numbers q ∙ point-numbers s ds α fs fds f,
          )
      go (failed n r p c e) =
          let d = dual-of cs z s long in
          let q = primal_of cs z s long in
          let none = none_of P n r p (last_of P n r c) in
          subst EndsWith (sym e) (
            inr (record { step_zero = refl; dual-point = d; primal_point = q; none_passes = none }),
            ap all_numbers d ∙ finite_numbers z fz,
            ap all_numbers q ∙ finite_numbers s fs,
          )

-- ---- a call that is let through

module _ (cs : List Cone) (dz ds z s dual_point primal_point : List Float) (settings : Settings) (d : Doubles settings)
    (e : sides_rows cs dz ds z s (length dual_point) (length primal_point) settings ≡ 0) where
  abbrev C : Costed
  C = sides_of cs dz ds z s settings

  usable : Usable settings
  usable =
      let r = (both_plannable cs dz ds z s dual_point primal_point settings e).0.searchable in
      usable_of settings d.start d.smallest r.finite_settings r.good-settings

  searched : BothAsOrdered cs dz ds z s settings (found_on_sides (in_sides cs (costed_of C)))
  unfolding costed_of
  searched =
      let o = costed_of C in
      let ready = (both_plannable cs dz ds z s dual_point primal_point settings e).0 in
      let same = ready.searchable.dq_length in
      let long = ready.lengths_add_up in
      let rows = each_side cs dz ds z s dual_point primal_point settings e in
      let fd = finite_slices cs dz z dual_point settings rows.0 in
      let fp = finite_slices cs ds s primal_point settings rows.1 in
      let end = ends cs dz ds z s settings usable same long fd.0 fp.0 fd.1 fp.1 in
      let joined = take-append-drop (total_of cs) o.point in
      record {
        largest_passing =
            subst (λ (p : List Float). LargestPassing C (outcome o.step o.count p)) (sym joined) (largest_passing C usable);
        trial-passes = λ α. passes_at_lem cs dz ds z s settings α same long;
        tested_or_start = end.0;
        tests_at_most = sides_at_most cs dz ds z s settings usable;
        step_number = searched_step C.problem usable;
        dual-numbers = end.1;
        primal_numbers = end.2;
      }

  -- the searches of both sides, and of each
  searched_beside :
      Beside (costed_of C).step (costed_of (plan_of cs false dz z settings)).step (costed_of (plan_of cs true ds s settings)).step
  searched_beside =
      let ready = (both_plannable cs dz ds z s dual_point primal_point settings e).0 in
      beside_two cs dz ds z s settings usable ready.searchable.dq_length ready.lengths_add_up

  -- the common step of each side is let through, too
  beside :
      let dual = (common_step_of cs false dz z dual_point settings).answer in
      let primal = (common_step_of cs true ds s primal_point settings).answer in
      (dual.code ≡ 0) × (primal.code ≡ 0) × Beside (costed_of C).step dual.step primal.step
  unfolding common_step_of
  beside =
      let rows = each_side cs dz ds z s dual_point primal_point settings e in
      let D = found (costed_of (plan_of cs false dz z settings)) in
      let Q = found (costed_of (plan_of cs true ds s settings)) in
      let dual = done (plan_rows cs dz z (length dual_point) settings) _ D (refuse_found dual_point) refl rows.0 in
      let primal = done (plan_rows cs ds s (length primal_point) settings) _ Q (refuse_found primal_point) refl rows.1 in
      rw (← dual, ← primal) (refl, refl, searched_beside)

-- ---- the definition

module _ (cs : List Cone) (dz ds z s dual_point primal_point : List Float) (settings : Settings)
    (e : (plan_step_of cs dz ds z s dual_point primal_point settings).answer.code ≡ 0) where
  abbrev rows : ℕ
  rows = sides_rows cs dz ds z s (length dual_point) (length primal_point) settings

  abbrev answer : LentTwo Found
  answer = found_on_sides (in_sides cs (costed_of (sides_of cs dz ds z s settings)))

  through : rows ≡ 0
  unfolding plan_step_of
  through = let_through (λ (l : LentTwo Found). l.answer.code) answer (refuse_sides dual_point primal_point) (λ k. refl) rows e

  settled : answer ≡ plan_step_of cs dz ds z s dual_point primal_point settings
  unfolding plan_step_of
  settled = done rows rows answer (refuse_sides dual_point primal_point) refl through

pub plan_step_meets : PlanStepMeets
plan_step_meets cs dz ds z s dual_point primal_point settings d e =
    subst (BothAsOrdered cs dz ds z s settings) (settled cs dz ds z s dual_point primal_point settings e)
    (searched cs dz ds z s dual_point primal_point settings d (through cs dz ds z s dual_point primal_point settings e))

pub beside_two_steps : BesideTwoSteps
beside_two_steps cs dz ds z s dual_point primal_point settings d e =
    let dual = (common_step_of cs false dz z dual_point settings).answer in
    let primal = (common_step_of cs true ds s primal_point settings).answer in
    subst (λ (l : LentTwo Found). (dual.code ≡ 0) × (primal.code ≡ 0) × Beside l.answer.step dual.step primal.step)
    (settled cs dz ds z s dual_point primal_point settings e)
    (beside cs dz ds z s dual_point primal_point settings d (through cs dz ds z s dual_point primal_point settings e))

-- ---- one cone

-- the number of a call is that of its rows
settled_code : {A : Type 0} (number : A → ℕ) (d : A) (refuse : ℕ → A) → number d ≡ 0 → ((k : ℕ) → number (refuse k) ≡ k)
    → (k : ℕ) → number (settle k d refuse) ≡ k
unfolding settle
settled_code number d refuse z carries zero = z
settled_code number d refuse z carries (suc k) = carries (suc k)

module _ (c : Cone) (dz ds z s dual_point primal_point : List Float) (settings : Settings) where
  abbrev lone : List Cone
  lone = c ∷ []

  abbrev two : LentTwo Steps
  two = both_found (search_of (problem_of c false dz z settings)) (search_of (problem_of c true ds s settings))

  abbrev asked_rows : ℕ
  asked_rows = step_rows c dz ds z s (length dual_point) (length primal_point) settings

  rows-one : sides_rows lone dz ds z s (length dual_point) (length primal_point) settings ≡ asked_rows
  unfolding sides_faults step_faults
  rows-one = simp (ok_one c, total-one c)

  codes_one : (plan_step_of lone dz ds z s dual_point primal_point settings).answer.code
      ≡ (step_length_of c dz ds z s dual_point primal_point settings).answer.code
  unfolding plan_step_of step_length_of
  codes_one =
      settled_code (λ (l : LentTwo Found). l.answer.code) _ (refuse_sides dual_point primal_point) refl (λ k. refl) _
      ∙ rows-one
      ∙ sym (settled_code (λ (l : LentTwo Steps). l.answer.code) two (refuse_steps dual_point primal_point) refl (λ k. refl) asked_rows)

  steps_one : Doubles settings → sides_rows lone dz ds z s (length dual_point) (length primal_point) settings ≡ 0
      → let l = (step_length_of c dz ds z s dual_point primal_point settings).answer in
      Beside (costed_of (sides_of lone dz ds z s settings)).step l.dualstep l.primalstep
  unfolding step_length_of
  steps_one d e =
      let ready = both_plannable lone dz ds z s dual_point primal_point settings e in
      let dual = ready.0.searchable.dq_length in
      let primal = ready.1.searchable.dq_length in
      let D = one-cone c false dz z settings (sym ready.0.lengths_add_up ∙ total-one c) dual in
      let Q = one-cone c true ds s settings (sym ready.1.lengths_add_up ∙ total-one c) primal in
      let l = done asked_rows asked_rows two (refuse_steps dual_point primal_point) refl (sym rows-one ∙ e) in
      rw (← l, ← D, ← Q) (searched_beside lone dz ds z s dual_point primal_point settings d e)

pub one_cone_both_sides : OneConeBothSides
one_cone_both_sides c dz ds z s dual_point primal_point settings = (
  codes_one c dz ds z s dual_point primal_point settings,
  λ d e.
      let l = (step_length_of c dz ds z s dual_point primal_point settings).answer in
      subst (λ (b : LentTwo Found). Beside b.answer.step l.dualstep l.primalstep)
      (settled (c ∷ []) dz ds z s dual_point primal_point settings e)
      (steps_one c dz ds z s dual_point primal_point settings d (through (c ∷ []) dz ds z s dual_point primal_point settings e)),
)

-- ---- the function: `Post` is the claim of `ensures`, and `GoodsP` what holds of the arguments of every call, so that each f64 is a double

module _ (κs : Lfts 7) (a : Dens κs kinds.ps) where
  -- the arguments: cones, dz, ds, z, s, both lent points, settings
  abbrev BothOfCall : LentTwo Found → Type 0
  BothOfCall l =
      BothAsOrdered (cones_of a.0.now) a.1.0.now a.1.1.0.now a.1.1.1.0.now a.1.1.1.1.0.now
      a.1.1.1.1.1.1.1.0 l

  pub plan_step_of_call : (r : (res_t kinds.r κs).Denot) (x : AtExit (ended_of 7 kinds.ps kinds.r) κs)
      → GoodsP κs kinds.ps a → step.Post κs a r x → r.code ≡ 0
      → BothOfCall (record { answer = r; first = x.1.1.1.1.1.0.now; second = x.1.1.1.1.1.1.0.now })
  plan_step_of_call r x g p e =
      let doubles = g.1.1.1.1.1.1.1.0.1.1 in
      let d : Doubles a.1.1.1.1.1.1.1.0 =
      record { start = of_true _ doubles.0.1; smallest = of_true _ doubles.1.1.0.1 }
      in
      let dual_point = a.1.1.1.1.1.0.now in
      let primal_point = a.1.1.1.1.1.1.0.now in
      subst BothOfCall (sym p)
      (plan_step_meets _ _ _ _ _ dual_point primal_point _ d (ap (λ (l : LentTwo Found). l.answer.code) (sym p) ∙ e))
