-- Demand 3 of the entries: a call with number 0 was let through by its rows, so its answer is the search's, and its settings are usable.
-- Assumes nothing.
use mathlib.Core.Path.{◌≡◌, refl, sym, ap, subst, ◌∙◌}
use mathlib.Core.Bool.{Bool, true, false}
use mathlib.Core.List.{List}
use Prim.Native.Nat.{ℕ, zero, suc}
use lib.Ieee.{Float}
use lib.ListN.{length}
use denote.Triple.Clauses.{AtExit}
use contract.Lifetimes.{Lfts}
use borrow.Fn.Kinds.{Dens, GoodsP, res_t, ended_of}
use Rattle.cone.specs.declared.Cone.{Cone}
use Rattle.cone.specs.declared.Settings.{Settings}
use Rattle.cone.specs.declared.Found.{Found}
use Rattle.cone.specs.declared.Steps.{Steps}
use Rattle.judges.specs.Judges.{all_finite}
use Rattle.cone.specs.table.Table.{settle}
use Rattle.judges.specs.Refusals.{Lent, LentTwo}
use Rattle.cone.proofs.table.Settled.{done}
use Rattle.search.specs.trials.Search.{Problem, search_of}
use Rattle.search.proofs.trials.FirstPassing.{first_passing}
use Rattle.search.specs.Problems.{problem_of, Searchable}
use Rattle.search.proofs.Settings.{of_true, usable_of}
use Rattle.search.proofs.NoNan.{searched_step, searched-numbers}
use Rattle.call_search.specs.single.Rows.{search_rows, step_rows}
use Rattle.call_search.specs.single.Entries.{found, refuse_found, both_found, refuse_steps, backtrack_search_of, step_length_of}
use Rattle.call_search.specs.single.Demand3.{AsDemanded, Doubles, outcome_of, SearchMeets, BothAsDemanded, StepMeets}
use Rattle.call_search.proofs.single.LetThrough.{searchable, finite_slices, both_searchable, finite_sides}
use Rattle.call_search.proofs.single.backtrack_search.Kinds as search_kinds
use Rattle.call_search.proofs.single.backtrack_search.Reads as search
use Rattle.call_search.proofs.single.step_length.Kinds as step_kinds
use Rattle.call_search.proofs.single.step_length.Reads as step

-- a call whose number is 0 was let through: a refusal carries the number of its row
pub let_through : {A : Type 0} (number : A → ℕ) (d : A) (refuse : ℕ → A) → ((k : ℕ) → number (refuse k) ≡ k)
    → (k : ℕ) → number (settle k d refuse) ≡ 0 → k ≡ 0
unfolding settle
let_through number d refuse carries zero e = refl
let_through number d refuse carries (suc k) e = sym (carries (suc k)) ∙ e

-- a search that may begin ends as demand 3 asks
searched : (c : Cone) (primal : Bool) (dq q point : List Float) (s : Settings) → Doubles s → Searchable dq q s point
    → all_finite dq ≡ true → all_finite q ≡ true → AsDemanded (problem_of c primal dq q s) (search_of (problem_of c primal dq q s))
searched c primal dq q point s d r f g =
    let P = problem_of c primal dq q s in
    let ok = usable_of s d.start d.smallest r.finite_settings r.good-settings in
    record { first_passing = first_passing P ok; step_number = searched_step P ok; point-numbers = searched-numbers _ dq q s ok f g }

-- ---- the definitions

pub search_meets : SearchMeets
unfolding backtrack_search_of
search_meets c primal dq q point s d e =
    let P = problem_of c primal dq q s in
    let k = search_rows c dq q (length point) s in
    let z = let_through (λ (l : Lent Found). l.answer.code) (found (search_of P)) (refuse_found point) (λ k. refl) k e in
    let f = finite_slices c dq q point s z in
    subst (λ (l : Lent Found). AsDemanded P (outcome_of l.answer l.slice)) (done k k (found (search_of P)) (refuse_found point) refl z)
    (searched c primal dq q point s d (searchable c dq q point s z) f.0 f.1)

pub step_meets : StepMeets
unfolding step_length_of
step_meets c dz ds z s dual_point primal_point settings d e =
    let D = search_of (problem_of c false dz z settings) in
    let P = search_of (problem_of c true ds s settings) in
    let k = step_rows c dz ds z s (length dual_point) (length primal_point) settings in
    let o = let_through (λ (l : LentTwo Steps). l.answer.code) (both_found D P) (refuse_steps dual_point primal_point) (λ k. refl) k e in
    let r = both_searchable c dz ds z s dual_point primal_point settings o in
    let f = finite_sides c dz ds z s dual_point primal_point settings o in
    let same = done k k (both_found D P) (refuse_steps dual_point primal_point) refl o in
    subst (λ (l : LentTwo Steps). BothAsDemanded c dz ds z s settings l) same (
      searched c false dz z dual_point settings d r.0 f.0 f.2,
      searched c true ds s primal_point settings d r.1 f.1 f.3,
    )

-- ---- the functions: `Post` is the claim of `ensures`, and `GoodsP` what holds of the arguments of every call: each f64 is a double

module _ (κs : Lfts 3) (a : Dens κs search_kinds.ps) where
  -- the arguments: cone, side, direction, point, lent point, settings
  abbrev problem : Problem
  problem = problem_of a.0 a.1.0 a.1.1.0.now a.1.1.1.0.now a.1.1.1.1.1.0

  pub backtrack_search_meets : (r : (res_t search_kinds.r κs).Denot) (x : AtExit (ended_of 3 search_kinds.ps search_kinds.r) κs)
      → GoodsP κs search_kinds.ps a → search.Post κs a r x → r.code ≡ 0 → AsDemanded problem (outcome_of r x.1.1.1.1.0.now)
  backtrack_search_meets r x g p e =
      let doubles = g.1.1.1.1.1.0.1.1 in
      let d : Doubles a.1.1.1.1.1.0 = record { start = of_true _ doubles.0.1; smallest = of_true _ doubles.1.1.0.1 } in
      subst (λ (l : Lent Found). AsDemanded problem (outcome_of l.answer l.slice)) (sym p)
      (search_meets _ _ _ _ a.1.1.1.1.0.now _ d (ap (λ (l : Lent Found). l.answer.code) (sym p) ∙ e))

module _ (κs : Lfts 6) (a : Dens κs step_kinds.ps) where
  -- the arguments: cone, dz, ds, z, s, both lent points, settings
  abbrev BothOfCall : LentTwo Steps → Type 0
  BothOfCall l =
      BothAsDemanded a.0 a.1.0.now a.1.1.0.now a.1.1.1.0.now a.1.1.1.1.0.now a.1.1.1.1.1.1.1.0 l

  pub step_length_meets : (r : (res_t step_kinds.r κs).Denot) (x : AtExit (ended_of 6 step_kinds.ps step_kinds.r) κs)
      → GoodsP κs step_kinds.ps a → step.Post κs a r x → r.code ≡ 0
      → BothOfCall (record { answer = r; first = x.1.1.1.1.1.0.now; second = x.1.1.1.1.1.1.0.now })
  step_length_meets r x g p e =
      let doubles = g.1.1.1.1.1.1.1.0.1.1 in
      let d : Doubles a.1.1.1.1.1.1.1.0 =
      record { start = of_true _ doubles.0.1; smallest = of_true _ doubles.1.1.0.1 }
      in
      let dual_point = a.1.1.1.1.1.0.now in
      let primal_point = a.1.1.1.1.1.1.0.now in
      subst BothOfCall (sym p)
      (step_meets _ _ _ _ _ dual_point primal_point _ d (ap (λ (l : LentTwo Steps). l.answer.code) (sym p) ∙ e))
