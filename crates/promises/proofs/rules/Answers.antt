-- Every entry looks at a cone's rule in row 1 alone: with the row's answer known, what is left of a call is the same under any rule, but
-- for the record that it hands back. Assumes nothing.
use Prim.Native.Nat.{ℕ, zero, suc, ◌+◌}
use mathlib.Core.Path.{◌≡◌, refl, ap, ◌∙◌}
use mathlib.Core.Bool.{Bool, true, false, cond}
use mathlib.Core.List.{List}
use lib.Dec.{eqb}
use lib.Ieee.{Float}
use Rattle.cone.specs.declared.Cone.{Cone}
use Rattle.cone.specs.declared.Scaling.{Scaling}
use Rattle.std.specs.Prelude.{Option, Some, None, option_map}
use Rattle.cone.specs.declared.Updated.{Updated}
use Rattle.cone.specs.Codes.{numel_of, block_of}
use Rattle.judges.specs.Judges.{rule1, rule2, rule_ok, cone_ok, record_finite}
use Rattle.cone.specs.Fresh as made
use Rattle.cone.specs.table.Table.{first_row, settle}
use Rattle.judges.specs.Refusals.{last_rows, settle_record}
use Rattle.kinds.specs.Cones as kinds
use Rattle.scaling.specs.Updates.{new_three, new_wide, new_record_of}
use Rattle.call_cone.specs.formulas.Rows.{fresh_faults, read_faults, unit_faults, copy_faults, offset_faults}
use Rattle.call_cone.specs.formulas.Entries as cones
use Rattle.call_search.specs.single.Rows.{search_faults, step_faults}
use Rattle.call_search.specs.single.Entries as searches
use Rattle.call_record.specs.update.Entries as updates
use Rattle.call_record.specs.entries.Rows.{gradient_rows, barrier_rows, compute_rows, block_rows, product_rows, correction_rows}
use Rattle.call_record.specs.entries.Entries as records
use Rattle.promises.specs.rules.Entries.{Entry, call, code_of, under, record_under, updated_under, carrying}
use Rattle.promises.specs.rules.Entries.{with_cone, updated, fresh, is_primal_feasible, is_dual_feasible, barrier_dual, dual_grad_h}
use Rattle.promises.specs.rules.Entries.{unit_initialization, rectify_equilibration, affine_ds, ds_from_dz_offset, backtrack_search, step_length}
use Rattle.promises.specs.rules.Entries.{update_scaling, gradient_primal, barrier_primal, compute_barrier}
use Rattle.promises.specs.rules.Entries.{get_hs, mul_hs, higher_correction, combined_ds_shift}
use Rattle.promises.specs.rules.Rules.{InRowOne, Answers}
use Rattle.promises.proofs.rules.Tolerances.{wider}

-- ---- what is handed back of a record in the making

abbrev made_under : ℕ → Option Scaling → Option Scaling
made_under rule made = option_map (record_under rule) made

either
    : (is-3 : Bool) (rule : ℕ) (x y u v : Option Scaling) → u ≡ made_under rule x → v ≡ made_under rule y
    → cond is-3 u v ≡ made_under rule (cond is-3 x y)
either true rule x y u v p q = p
either false rule x y u v p q = q

-- what is made under a rule of what may not be there
each-made : {A : Type 0} (rule : ℕ) (f g : A → Scaling) → ((x : A) → f x ≡ record_under rule (g x)) → (o : Option A)
    → option_map f o ≡ made_under rule (option_map g o)
each-made rule f g p None = refl
each-made rule f g p (Some x) = ap (λ (new : Scaling). Some new) (p x)

dual-made : (rule : ℕ) (c : Cone) (z : List Float) → kinds.dual_grad_h_of (under rule c) z ≡ made_under rule (kinds.dual_grad_h_of c z)
unfolding kinds.dual_grad_h_of
dual-made rule c z = either (eqb c.kind 3) rule _ _ _ _ (each-made rule _ _ (λ w. refl) _) refl

new-made
    : (rule : ℕ) (c : Cone) (s z : List Float) (μ : Float) (strategy : ℕ)
    → new_record_of (under rule c) s z μ strategy ≡ made_under rule (new_record_of c s z μ strategy)
unfolding new_record_of new_three new_wide
new-made rule c s z μ strategy =
    either (eqb c.kind 3) rule _ _ _ _ (each-made rule _ _ (λ w. refl) _) (each-made rule _ _ (λ hs. refl) _)

-- rows 6 and 7 ask for no rule
record-settled
    : {A : Type 0} (rule : ℕ) (made : Option Scaling) (finish finish' : Scaling → A) (refuse : ℕ → A)
    → ((new : Scaling) → finish (record_under rule new) ≡ finish' new)
    → settle_record (made_under rule made) finish refuse ≡ settle_record made finish' refuse
unfolding settle_record last_rows record_finite
record-settled rule None finish finish' refuse p = refl
record-settled rule (Some new) finish finish' refuse p = ap (λ x. settle (last_rows (Some new)) x refuse) (p new)

settled-under
    : (rule k : ℕ) (x : Updated) (refuse : ℕ → Updated)
    → settle k (updated_under rule x) (λ j. updated_under rule (refuse j)) ≡ updated_under rule (settle k x refuse)
unfolding settle
settled-under rule zero x refuse = refl
settled-under rule (suc k) x refuse = refl

both-settled
    : (rule k : ℕ) (made : Option Scaling) (finish finish' : Scaling → Updated) (refuse : ℕ → Updated)
    → ((new : Scaling) → finish (record_under rule new) ≡ updated_under rule (finish' new))
    → settle k (settle_record (made_under rule made) finish (λ j. updated_under rule (refuse j))) (λ j. updated_under rule (refuse j))
    ≡ updated_under rule (settle k (settle_record made finish' refuse) refuse)
unfolding settle settle_record last_rows record_finite
both-settled rule zero None finish finish' refuse p = refl
both-settled rule zero (Some new) finish finish' refuse p =
    ap (λ (x : Updated). settle (last_rows (Some new)) x (λ j. updated_under rule (refuse j))) (p new)
    ∙ settled-under rule (last_rows (Some new)) (finish' new) refuse
both-settled rule (suc k) made finish finish' refuse p = refl

module _ (r : Scaling) (c : Cone) (rule : ℕ) (ok : cone_ok c ≡ true) (ok' : cone_ok (under rule c) ≡ true) where
  update_made
      : (s z : List Float) (μ : Float) (strategy : ℕ)
      → updates.update_scaling_of (with_cone (under rule c) r) s z μ strategy
      ≡ updated_under rule (updates.update_scaling_of (with_cone c r) s z μ strategy)
  unfolding updates.update_scaling_of updates.update_rows numel_of record_finite
  update_made s z μ strategy =
      let done = updates.completed (r.serial + 1) in
      rw (ok, ok', new-made rule c s z μ strategy) (both-settled rule _ (new_record_of c s z μ strategy) done done _ (λ new. refl))

-- ---- the entries

in_row_one : (e : Entry) → InRowOne e
unfolding call carrying numel_of block_of record_finite first_row settle fresh_faults read_faults unit_faults copy_faults offset_faults search_faults
    step_faults gradient_rows barrier_rows compute_rows block_rows product_rows correction_rows made.fresh_of cones.fresh_of cones.is_primal_feasible_of
    cones.is_dual_feasible_of cones.barrier_dual_of kinds.barrier_dual_of cones.dual_grad_h_of cones.unit_initialization_of cones.rectify_of
    cones.rectify_equilibration_of cones.affine_ds_of cones.ds_from_dz_offset_of searches.backtrack_search_of searches.step_length_of
    records.gradient_primal_of records.primal_barrier_of records.barrier_primal_of records.combined_barrier_of records.compute_barrier_of
    records.get_hs_of records.mul_hs_of records.higher_correction_of records.combined_ds_shift_of
in_row_one fresh c rule ok ok' = rw (ok, ok')
in_row_one (is_primal_feasible s) c rule ok ok' = rw (ok, ok')
in_row_one (is_dual_feasible z) c rule ok ok' = rw (ok, ok')
in_row_one (barrier_dual z) c rule ok ok' = rw (ok, ok')
in_row_one (dual_grad_h z) c rule ok ok' =
    rw (ok, ok', dual-made rule c z, record-settled rule (kinds.dual_grad_h_of c z) cones.grad_of cones.grad_of cones.refuse_grad (λ new. refl))
in_row_one (unit_initialization z s) c rule ok ok' = rw (ok, ok')
in_row_one (rectify_equilibration δ e) c rule ok ok' = rw (ok, ok')
in_row_one (affine_ds ds s) c rule ok ok' = rw (ok, ok')
in_row_one (ds_from_dz_offset out ds z) c rule ok ok' = rw (ok, ok')
in_row_one (backtrack_search primal dq q point how) c rule ok ok' = rw (ok, ok')
in_row_one (step_length dz ds z s dual_point primal_point how) c rule ok ok' = rw (ok, ok')
in_row_one (update_scaling r s z μ strategy) c rule ok ok' = ap updated (update_made r c rule ok ok' s z μ strategy)
in_row_one (gradient_primal r g s) c rule ok ok' = rw (ok, ok')
in_row_one (barrier_primal r s) c rule ok ok' = rw (ok, ok')
in_row_one (compute_barrier r z s dz ds step) c rule ok ok' = rw (ok, ok')
in_row_one (get_hs r serial block) c rule ok ok' = rw (ok, ok')
in_row_one (mul_hs r serial y x) c rule ok ok' = rw (ok, ok')
in_row_one (higher_correction r serial η ds v) c rule ok ok' = rw (ok, ok')
in_row_one (combined_ds_shift r serial out stepz steps σμ) c rule ok ok' = rw (ok, ok')

pub not_taken : (c : Cone) → rule_ok c.rule ≡ false → cone_ok c ≡ false
unfolding cone_ok
not_taken c bad = rw bad

another_gives_1 : (e : Entry) (c : Cone) → rule_ok c.rule ≡ false → code_of (call e c) ≡ 1
unfolding call code_of first_row settle fresh_faults read_faults unit_faults copy_faults offset_faults search_faults step_faults gradient_rows
    barrier_rows compute_rows block_rows product_rows correction_rows cones.fresh_of cones.is_primal_feasible_of cones.is_dual_feasible_of
    cones.barrier_dual_of cones.dual_grad_h_of cones.refuse_grad cones.unit_initialization_of cones.rectify_of cones.rectify_equilibration_of
    cones.affine_ds_of cones.ds_from_dz_offset_of searches.backtrack_search_of searches.step_length_of updates.update_rows updates.update_scaling_of
    records.gradient_primal_of records.barrier_primal_of records.compute_barrier_of records.get_hs_of records.mul_hs_of records.higher_correction_of
    records.combined_ds_shift_of
another_gives_1 fresh c bad = rw (not_taken c bad)
another_gives_1 (is_primal_feasible s) c bad = rw (not_taken c bad)
another_gives_1 (is_dual_feasible z) c bad = rw (not_taken c bad)
another_gives_1 (barrier_dual z) c bad = rw (not_taken c bad)
another_gives_1 (dual_grad_h z) c bad = rw (not_taken c bad)
another_gives_1 (unit_initialization z s) c bad = rw (not_taken c bad)
another_gives_1 (rectify_equilibration δ e) c bad = rw (not_taken c bad)
another_gives_1 (affine_ds ds s) c bad = rw (not_taken c bad)
another_gives_1 (ds_from_dz_offset out ds z) c bad = rw (not_taken c bad)
another_gives_1 (backtrack_search primal dq q point how) c bad = rw (not_taken c bad)
another_gives_1 (step_length dz ds z s dual_point primal_point how) c bad = rw (not_taken c bad)
another_gives_1 (update_scaling r s z μ strategy) c bad = rw (not_taken c bad)
another_gives_1 (gradient_primal r g s) c bad = rw (not_taken c bad)
another_gives_1 (barrier_primal r s) c bad = rw (not_taken c bad)
another_gives_1 (compute_barrier r z s dz ds step) c bad = rw (not_taken c bad)
another_gives_1 (get_hs r serial block) c bad = rw (not_taken c bad)
another_gives_1 (mul_hs r serial y x) c bad = rw (not_taken c bad)
another_gives_1 (higher_correction r serial η ds v) c bad = rw (not_taken c bad)
another_gives_1 (combined_ds_shift r serial out stepz steps σμ) c bad = rw (not_taken c bad)

pub answers : Answers
answers = record {
  in_row_one = in_row_one;
  equal = λ e c ok. in_row_one e (under rule1 c) rule2 (wider.takes c ok) ok;
  another = another_gives_1;
}
