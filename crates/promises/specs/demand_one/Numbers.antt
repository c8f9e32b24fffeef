-- Which numbers each call can give at all, a row for each call, 0 aside. 01, "Numbers handed back". Definitions and statements;
-- proofs/demand_one/Numbers and proofs/demand_one/Given prove them.
use Rattle.std.specs.Prelude.{ℕ, ◌≡◌, Bool, true, false, cond, ◌||◌, List, [], ◌∷◌, eqb, Float}
use Rattle.cone.specs.declared.Cone.{Cone}
use Rattle.cone.specs.declared.Settings.{Settings}
use Rattle.promises.specs.rules.Entries.{Entry, fresh, is_primal_feasible, is_dual_feasible, barrier_dual, dual_grad_h}
use Rattle.promises.specs.rules.Entries.{unit_initialization, rectify_equilibration, affine_ds, ds_from_dz_offset, backtrack_search}
use Rattle.promises.specs.rules.Entries.{step_length}
use Rattle.promises.specs.rules.Entries.{update_scaling, gradient_primal, barrier_primal, compute_barrier}
use Rattle.promises.specs.rules.Entries.{get_hs, mul_hs, higher_correction, combined_ds_shift}
use Rattle.promises.specs.demand_one.Calls.{Call, number_of, entry, common_step, plan_step, trace_create, trace_append, trace_open}
use Rattle.promises.specs.demand_one.Calls.{trace_record, record_put, record_at, trace_seal, replay, rescue, thin, thin_in_place}
use Rattle.promises.specs.demand_one.Calls.{sheet_add, sheet_join, sheet_text}

-- the numbers stand in the order of 01's table
unfoldable pub of_entry : Entry → List ℕ
of_entry fresh = 1 ∷ []
of_entry (is_primal_feasible s) = 1 ∷ 2 ∷ 3 ∷ []
of_entry (is_dual_feasible z) = 1 ∷ 2 ∷ 3 ∷ []
of_entry (barrier_dual z) = 1 ∷ 2 ∷ 3 ∷ 7 ∷ []
of_entry (dual_grad_h z) = 1 ∷ 2 ∷ 3 ∷ 6 ∷ 7 ∷ []
of_entry (unit_initialization z s) = 1 ∷ 2 ∷ []
of_entry (rectify_equilibration δ e) = 1 ∷ 2 ∷ 3 ∷ 7 ∷ []
of_entry (affine_ds ds s) = 1 ∷ 2 ∷ 3 ∷ []
of_entry (ds_from_dz_offset out ds z) = 1 ∷ 2 ∷ 3 ∷ []
of_entry (backtrack_search primal dq q point how) = 1 ∷ 2 ∷ 3 ∷ 4 ∷ []
of_entry (step_length dz ds z s dual_point primal_point how) = 1 ∷ 2 ∷ 3 ∷ 4 ∷ []
of_entry (update_scaling r s z μ strategy) = 1 ∷ 2 ∷ 3 ∷ 4 ∷ 11 ∷ 6 ∷ 7 ∷ []
of_entry (gradient_primal r g s) = 1 ∷ 2 ∷ 3 ∷ 6 ∷ 7 ∷ []
of_entry (barrier_primal r s) = 1 ∷ 2 ∷ 3 ∷ 6 ∷ 7 ∷ []
of_entry (compute_barrier r z s dz ds step) = 1 ∷ 2 ∷ 3 ∷ 6 ∷ 7 ∷ []
of_entry (get_hs r serial block) = 1 ∷ 2 ∷ 3 ∷ 5 ∷ 10 ∷ 7 ∷ []
of_entry (mul_hs r serial y x) = 1 ∷ 2 ∷ 3 ∷ 5 ∷ 10 ∷ 7 ∷ []
of_entry (higher_correction r serial η ds v) = 1 ∷ 2 ∷ 3 ∷ 5 ∷ 10 ∷ 7 ∷ []
of_entry (combined_ds_shift r serial out stepz steps σμ) = 1 ∷ 2 ∷ 3 ∷ 5 ∷ 10 ∷ 7 ∷ []

unfoldable pub numbers_of : Call → List ℕ
numbers_of (entry e c) = of_entry e
numbers_of (common_step cs primal dq q point s) = 1 ∷ 2 ∷ 3 ∷ 4 ∷ []
numbers_of (plan_step cs dz ds z s dual_point primal_point how) = 1 ∷ 2 ∷ 3 ∷ 4 ∷ []
numbers_of (trace_create bytes) = 8 ∷ []
numbers_of (trace_append bytes used a) = 9 ∷ 8 ∷ []
numbers_of (trace_open bytes) = 9 ∷ []
numbers_of (trace_record bytes i) = 9 ∷ []
numbers_of (record_put bytes at edition a) = 9 ∷ 8 ∷ []
numbers_of (record_at bytes edition at) = 9 ∷ []
numbers_of (trace_seal bytes used edition) = 9 ∷ 8 ∷ []
numbers_of (replay bytes offsets) = 9 ∷ 8 ∷ []
numbers_of (rescue input output edition) = 9 ∷ 8 ∷ []
numbers_of (thin bytes output) = 9 ∷ 8 ∷ []
numbers_of (thin_in_place bytes) = 9 ∷ []
numbers_of (sheet_add h file) = 2 ∷ 8 ∷ []
numbers_of (sheet_join h second) = 2 ∷ 9 ∷ 8 ∷ []
numbers_of (sheet_text bytes h) = 2 ∷ 9 ∷ 8 ∷ []

-- k stands in the row
unfoldable pub among : ℕ → List ℕ → Bool
among k [] = false
among k (n ∷ ns) = eqb k n || among k ns

-- a call gives no other number than those of its row
abbrev pub OnlyThese : Type 0
OnlyThese = (a : Call) → among (number_of a) (0 ∷ numbers_of a) ≡ true

-- ---- no row lists a number for nothing

-- which call it is, whatever its arguments: the place of its row
unfoldable pub row_of_entry : Entry → ℕ
row_of_entry fresh = 0
row_of_entry (is_primal_feasible s) = 1
row_of_entry (is_dual_feasible z) = 2
row_of_entry (barrier_dual z) = 3
row_of_entry (dual_grad_h z) = 4
row_of_entry (unit_initialization z s) = 5
row_of_entry (rectify_equilibration δ e) = 6
row_of_entry (affine_ds ds s) = 7
row_of_entry (ds_from_dz_offset out ds z) = 8
row_of_entry (backtrack_search primal dq q point how) = 9
row_of_entry (step_length dz ds z s dual_point primal_point how) = 10
row_of_entry (update_scaling r s z μ strategy) = 11
row_of_entry (gradient_primal r g s) = 12
row_of_entry (barrier_primal r s) = 13
row_of_entry (compute_barrier r z s dz ds step) = 14
row_of_entry (get_hs r serial block) = 15
row_of_entry (mul_hs r serial y x) = 16
row_of_entry (higher_correction r serial η ds v) = 17
row_of_entry (combined_ds_shift r serial out stepz steps σμ) = 18

unfoldable pub row_of : Call → ℕ
row_of (entry e c) = row_of_entry e
row_of (common_step cs primal dq q point s) = 19
row_of (plan_step cs dz ds z s dual_point primal_point how) = 20
row_of (trace_create bytes) = 21
row_of (trace_append bytes used a) = 22
row_of (trace_open bytes) = 23
row_of (trace_record bytes i) = 24
row_of (record_put bytes at edition a) = 25
row_of (record_at bytes edition at) = 26
row_of (trace_seal bytes used edition) = 27
row_of (replay bytes offsets) = 28
row_of (rescue input output edition) = 29
row_of (thin bytes output) = 30
row_of (thin_in_place bytes) = 31
row_of (sheet_add h file) = 32
row_of (sheet_join h second) = 33
row_of (sheet_text bytes h) = 34

-- the numbers of a row that the arguments alone decide. 6 and 7 are found where an answer is computed
unfoldable pub by_arguments : List ℕ → List ℕ
by_arguments [] = []
by_arguments (k ∷ ks) = cond (eqb k 6 || eqb k 7) (by_arguments ks) (k ∷ by_arguments ks)

-- each of them is given by some call of that row
abbrev pub AllGiven : Type 0
AllGiven = (a : Call) (k : ℕ) → among k (by_arguments (numbers_of a)) ≡ true → (b : Call) × (row_of b ≡ row_of a) × (number_of b ≡ k)

-- ---- 01: "Feasibility and step search take a cone and no record, and never give 5, 6 or 7"

abbrev pub NotFiveSixSeven : ℕ → Type 0
NotFiveSixSeven k = among k (5 ∷ 6 ∷ 7 ∷ []) ≡ false

pub record TestsAndSearches : Type 0 where
  pub primal_test : (c : Cone) (s : List Float) → NotFiveSixSeven (number_of (entry (is_primal_feasible s) c))
  pub dual-test : (c : Cone) (z : List Float) → NotFiveSixSeven (number_of (entry (is_dual_feasible z) c))
  pub backtrack_search_lem : (c : Cone) (primal : Bool) (dq q point : List Float) (how : Settings)
      → NotFiveSixSeven (number_of (entry (backtrack_search primal dq q point how) c))
  pub step_length_lem : (c : Cone) (dz ds z s dual_point primal_point : List Float) (how : Settings)
      → NotFiveSixSeven (number_of (entry (step_length dz ds z s dual_point primal_point how) c))
  pub common_step_lem : (cs : List Cone) (primal : Bool) (dq q point : List Float) (how : Settings)
      → NotFiveSixSeven (number_of (common_step cs primal dq q point how))
  pub plan_step_lem : (cs : List Cone) (dz ds z s dual_point primal_point : List Float) (how : Settings)
      → NotFiveSixSeven (number_of (plan_step cs dz ds z s dual_point primal_point how))
