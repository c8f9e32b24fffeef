-- The numbers that a call can give: those of the rows that judge it, whose other faults are none, and 6 and 7 where its answer is settled
-- again. Assumes nothing.
use Prim.Native.Nat.{ℕ, zero, suc}
use mathlib.Core.Path.{◌≡◌, refl, sym, ap, ◌∙◌, subst}
use mathlib.Core.Bool.{Bool, true, false, cond, not, ◌&&◌, ◌||◌}
use mathlib.Core.List.{List, [], ◌∷◌}
use lib.Dec.{eqb, ltb}
use Rattle.std.specs.Prelude.{Option, Some, None}
use lib.Ieee.{Float}
use lib.Ieee.Scale.{finite}
use lib.ListN.{length, drop}
use borrow.Author.Tests.{eqb-true}
use Rattle.arith.proofs.Branches.{false_not_true, and_left, and_right}
use Rattle.cone.specs.declared.Cone.{Cone}
use Rattle.cone.specs.declared.verdict.Verdict.{Verdict}
use Rattle.cone.specs.declared.Updated.{Updated}
use Rattle.cone.specs.declared.Scaling.{Scaling}
use Rattle.cone.specs.declared.Number.{Number}
use Rattle.cone.specs.declared.Rounds.{Rounds}
use Rattle.cone.specs.declared.Found.{Found}
use Rattle.cone.specs.declared.Steps.{Steps}
use Rattle.cone.specs.declared.DualGrad.{DualGrad}
use Rattle.cone.specs.declared.table.Faults.{Faults}
use Rattle.cone.specs.Fresh as made_fresh
use Rattle.cone.specs.Fresh.{empty_cone}
use Rattle.cone.specs.Points.{three_of}
use Rattle.cone.specs.table.Table.{first_row, trace_row, settle}
use Rattle.cone.proofs.table.Settled.{no_fault}
use Rattle.judges.specs.Judges.{all_finite, record_finite}
use Rattle.judges.proofs.Lengths.{cone_is_ok}
use Rattle.judges.specs.Refusals as shared
use Rattle.judges.specs.Refusals.{Lent, LentTwo, last_rows, settle_record, refuse, refuse_two, refuse_number, refuse_rounds, refuse_update}
use Rattle.judges.specs.Refusals.{publish_of, judged_of, counted_of, with_rounds}
use Rattle.kinds.specs.declared.three.ThreeGradient.{ThreeGradient}
use Rattle.kinds.specs.Cones.{alpha_of}
use Rattle.kinds.specs.Three as three
use Rattle.call_cone.specs.formulas.Rows.{fresh_faults, read_faults, unit_faults, copy_faults, offset_faults}
use Rattle.call_cone.specs.formulas.Entries as cones
use Rattle.call_search.specs.single.Rows.{search_faults, step_faults}
use Rattle.call_search.specs.single.Entries as searches
use Rattle.call_search.specs.plans.Rows.{plan_faults, sides_faults}
use Rattle.call_search.specs.plans.Entries as plans
use Rattle.call_record.specs.update.Entries as updates
use Rattle.call_record.specs.three.Entries as three_entries
use Rattle.call_record.specs.entries.Rows.{gradient_rows, barrier_rows, compute_rows, block_rows, product_rows, correction_rows}
use Rattle.call_record.specs.entries.Entries as records
use Rattle.trace.specs.judge.Opening.{open_of}
use Rattle.trace.specs.declared.value.Recorded.{Recorded}
use Rattle.trace.specs.entries.Opened.{opened_of}
use Rattle.trace.specs.entries.Writing as writing
use Rattle.trace.specs.recording.Recording as recording
use Rattle.trace.specs.value.Recorded as value
use Rattle.trace_layout.specs.Records.{laid_at}
use Rattle.trace_layout.specs.Traces.{known, good_trace, count_at}
use Rattle.trace_replay.specs.call.Replay as replays
use Rattle.trace_rescue.specs.call.Rescue as rescues
use Rattle.trace_thin.specs.call.Thin as thins
use Rattle.trace_sheet.specs.counts.Sheet.{sheet_of}
use Rattle.trace_sheet.specs.rows.Rows as rows
use Rattle.trace_sheet.proofs.rows.Named.{sheet_named}
use Rattle.trace_sheet.specs.text.Printed as text
use Rattle.promises.specs.rules.Entries.{Entry, call, code_of, with_cone, fresh, is_primal_feasible, is_dual_feasible, barrier_dual}
use Rattle.promises.specs.rules.Entries.{dual_grad_h}
use Rattle.promises.specs.rules.Entries.{unit_initialization, rectify_equilibration, affine_ds, ds_from_dz_offset, backtrack_search}
use Rattle.promises.specs.rules.Entries.{step_length}
use Rattle.promises.specs.rules.Entries.{update_scaling, gradient_primal, barrier_primal, compute_barrier}
use Rattle.promises.specs.rules.Entries.{get_hs, mul_hs, higher_correction, combined_ds_shift}
use Rattle.promises.specs.demand_one.Calls.{made, number_in, number_of, entry, common_step, plan_step, trace_create, trace_append}
use Rattle.promises.specs.demand_one.Calls.{trace_open}
use Rattle.promises.specs.demand_one.Calls.{trace_record, record_put, record_at, trace_seal, replay, rescue, thin, thin_in_place}
use Rattle.promises.specs.demand_one.Calls.{sheet_add, sheet_join, sheet_text}
use Rattle.promises.specs.demand_one.Numbers.{of_entry, numbers_of, among, OnlyThese, NotFiveSixSeven, TestsAndSearches}
use Rattle.promises.proofs.demand_one.UnitStart.{unit_done}

-- ---- a row of numbers

-- a number of a row is its first, or one of the others
pub first-or : (P : ℕ → Type 0) (k n : ℕ) (b rest : Bool) → eqb k n ≡ b → (b || rest) ≡ true → P n → (rest ≡ true → P k) → P k
first-or P k n true rest e h here later = subst P (sym (eqb-true k n e)) here
first-or P k n false rest e h here later = later h

module _ (ns : List ℕ) where
  abbrev In : ℕ → Type 0
  In k = among k ns ≡ true

  row : (bad : Bool) (k rest : ℕ) → (bad ≡ true → In k) → In rest → In (cond bad k rest)
  row true k rest p q = p refl
  row false k rest p q = q

  -- a fault that a call has not gives no number
  none : (k : ℕ) → false ≡ true → In k
  none k e = absurd (false_not_true e)

  first-row : (f : Faults) → (f.cone ≡ true → In 1) → (f.length ≡ true → In 2) → (f.number ≡ true → In 3) → (f.setting ≡ true → In 4)
      → (f.spent ≡ true → In 11) → (f.unscaled ≡ true → In 5) → (f.serial ≡ true → In 10) → In 0 → In (first_row f)
  unfolding first_row
  first-row f one two three four eleven five ten z =
      row f.cone 1 _ one
      (row f.length 2 _ two
      (row f.number 3 _ three
      (row f.setting 4 _ four
      (row f.spent 11 _ eleven
      (row f.unscaled 5 _ five
      (row f.serial 10 0 ten z))))))

  trace-row : (broken full : Bool) → (broken ≡ true → In 9) → (full ≡ true → In 8) → In 0 → In (trace_row broken full)
  unfolding trace_row
  trace-row broken full nine eight z = row broken 9 _ nine (row full 8 0 eight z)

  sheet_row_lem : (length broken full : Bool) → In 2 → (broken ≡ true → In 9) → In 8 → In 0 → In (rows.sheet_row length broken full)
  unfolding rows.sheet_row
  sheet_row_lem length broken full two nine eight z = row length 2 _ (λ e. two) (trace-row broken full nine (λ e. eight) z)

  -- ---- an answer that is settled, chosen, published

  module _ {A : Type 0} (code : A → ℕ) where
    settled : (refusal : ℕ → A) → ((k : ℕ) → code (refusal k) ≡ k) → (k : ℕ) (x : A) → In k → In (code x)
        → In (code (settle k x refusal))
    unfolding settle
    settled refusal carries zero x p q = q
    settled refusal carries (suc k) x p q = subst In (sym (carries (suc k))) p

    -- where what follows holds of calls that are let through alone
    settled_if : (refusal : ℕ → A) → ((k : ℕ) → code (refusal k) ≡ k) → (k : ℕ) (x : A) → In k → (k ≡ 0 → In (code x))
        → In (code (settle k x refusal))
    unfolding settle
    settled_if refusal carries zero x p q = q refl
    settled_if refusal carries (suc k) x p q = subst In (sym (carries (suc k))) p

    either : (b : Bool) (x y : A) → In (code x) → In (code y) → In (code (cond b x y))
    either true x y p q = p
    either false x y p q = q

  module _ (zero_in : In 0) (seven : In 7) where
    published : (old ans : List Float) → In (publish_of old ans).answer
    unfolding publish_of
    published old ans = either (λ (l : Lent ℕ). l.answer) (all_finite ans) _ _ zero_in seven

    a_number : (x : Float) → In (shared.number_of x).code
    unfolding shared.number_of
    a_number x = either (λ (n : Number). n.code) (finite x) _ _ zero_in seven

    judged : In 6 → (x : Option Float) → In (judged_of x).code
    unfolding judged_of
    judged six None = six
    judged six (Some x) = a_number x

    with_rounds_lem : (n : ℕ) (old ans : List Float) → In (with_rounds n (publish_of old ans)).answer.code
    unfolding publish_of counted_of
    with_rounds_lem n old ans = go (all_finite ans)
      where
        go : (b : Bool) → In (with_rounds n (cond b (record { answer = 0; slice = ans }) (refuse old 7))).answer.code
        go true = zero_in
        go false = seven

    by_panics : In 6 → (g : List Float) (t : Option ThreeGradient) → In (three_entries.published g t).answer.code
    by_panics six g None = six
    by_panics six g (Some t) = with_rounds_lem t.rounds g t.g

    -- a new record, or 6 or 7
    by_record : {A : Type 0} (code : A → ℕ) (refusal : ℕ → A) → ((k : ℕ) → code (refusal k) ≡ k) → In 6
        → (made : Option Scaling) (finish : Scaling → A) → ((new : Scaling) → In (code (finish new)))
        → In (code (settle_record made finish refusal))
    unfolding settle_record last_rows
    by_record code refusal carries six None finish p = subst In (sym (carries 6)) six
    by_record code refusal carries six (Some new) finish p =
        settled code refusal carries _ (finish new) (either (λ (k : ℕ). k) (record_finite new) 0 7 zero_in seven) (p new)

-- ---- the entries, each by its row with 0

of_entry_lem : (e : Entry) (c : Cone) → among (code_of (call e c)) (0 ∷ of_entry e) ≡ true
unfolding among call code_of of_entry fresh_faults read_faults unit_faults copy_faults offset_faults search_faults step_faults gradient_rows
    barrier_rows compute_rows block_rows product_rows correction_rows cones.fresh_of cones.is_primal_feasible_of cones.is_dual_feasible_of
    cones.barrier_dual_of cones.dual_grad_h_of cones.refuse_grad cones.unit_initialization_of cones.rectify_of cones.rectify_equilibration_of
    cones.affine_ds_of cones.ds_from_dz_offset_of searches.backtrack_search_of searches.step_length_of updates.update_rows updates.update_scaling_of
    records.gradient_primal_of records.barrier_primal_of records.compute_barrier_of records.get_hs_of records.mul_hs_of records.higher_correction_of
    records.combined_ds_shift_of
of_entry_lem fresh c =
    let ns : List ℕ = 0 ∷ of_entry fresh in
    settled ns (λ (u : Updated). u.code) (λ k. record { code = k; scaling = made_fresh.fresh_of empty_cone }) (λ k. refl) _ _
    (first-row ns (fresh_faults c) (λ e. refl) (none ns 2) (none ns 3) (none ns 4) (none ns 11) (none ns 5) (none ns 10) refl) refl
of_entry_lem (is_primal_feasible s) c =
    let ns : List ℕ = 0 ∷ of_entry (is_primal_feasible s) in
    settled ns (λ (v : Verdict). v.code) cones.refuse_verdict (λ k. refl) _ _
    (first-row ns (read_faults c s) (λ e. refl) (λ e. refl) (λ e. refl) (none ns 4) (none ns 11) (none ns 5) (none ns 10) refl) refl
of_entry_lem (is_dual_feasible z) c =
    let ns : List ℕ = 0 ∷ of_entry (is_dual_feasible z) in
    settled ns (λ (v : Verdict). v.code) cones.refuse_verdict (λ k. refl) _ _
    (first-row ns (read_faults c z) (λ e. refl) (λ e. refl) (λ e. refl) (none ns 4) (none ns 11) (none ns 5) (none ns 10) refl) refl
of_entry_lem (barrier_dual z) c =
    let ns : List ℕ = 0 ∷ of_entry (barrier_dual z) in
    settled ns (λ (n : Number). n.code) refuse_number (λ k. refl) _ _
    (first-row ns (read_faults c z) (λ e. refl) (λ e. refl) (λ e. refl) (none ns 4) (none ns 11) (none ns 5) (none ns 10) refl)
    (a_number ns refl refl _)
of_entry_lem (dual_grad_h z) c =
    let ns : List ℕ = 0 ∷ of_entry (dual_grad_h z) in
    settled ns (λ (g : DualGrad). g.code) cones.refuse_grad (λ k. refl) _ _
    (first-row ns (read_faults c z) (λ e. refl) (λ e. refl) (λ e. refl) (none ns 4) (none ns 11) (none ns 5) (none ns 10) refl)
    (by_record ns refl refl (λ (g : DualGrad). g.code) cones.refuse_grad (λ k. refl) refl _ _ (λ new. refl))
of_entry_lem (unit_initialization z s) c =
    let ns : List ℕ = 0 ∷ of_entry (unit_initialization z s) in
    settled_if ns (λ (l : LentTwo ℕ). l.answer) (refuse_two z s) (λ k. refl) _ _
    (first-row ns (unit_faults c (length z) (length s)) (λ e. refl) (λ e. refl) (none ns 3) (none ns 4) (none ns 11) (none ns 5) (none ns 10)
    refl)
    (λ e. subst (In ns) (sym (unit_done c z s (cone_is_ok c (no_fault (unit_faults c (length z) (length s)) e).cone))) refl)
of_entry_lem (rectify_equilibration δ e) c =
    let ns : List ℕ = 0 ∷ of_entry (rectify_equilibration δ e) in
    settled ns (λ (l : Lent ℕ). l.answer) (refuse δ) (λ k. refl) _ _
    (first-row ns (copy_faults c (length δ) e) (λ e. refl) (λ e. refl) (λ e. refl) (none ns 4) (none ns 11) (none ns 5) (none ns 10) refl)
    (published ns refl refl δ _)
of_entry_lem (affine_ds ds s) c =
    let ns : List ℕ = 0 ∷ of_entry (affine_ds ds s) in
    settled ns (λ (l : Lent ℕ). l.answer) (refuse ds) (λ k. refl) _ _
    (first-row ns (copy_faults c (length ds) s) (λ e. refl) (λ e. refl) (λ e. refl) (none ns 4) (none ns 11) (none ns 5) (none ns 10)
    refl)
    refl
of_entry_lem (ds_from_dz_offset out ds z) c =
    let ns : List ℕ = 0 ∷ of_entry (ds_from_dz_offset out ds z) in
    settled ns (λ (l : Lent ℕ). l.answer) (refuse out) (λ k. refl) _ _
    (first-row ns (offset_faults c (length out) ds z) (λ e. refl) (λ e. refl) (λ e. refl) (none ns 4) (none ns 11) (none ns 5)
    (none ns 10) refl)
    refl
of_entry_lem (backtrack_search primal dq q point how) c =
    let ns : List ℕ = 0 ∷ of_entry (backtrack_search primal dq q point how) in
    settled ns (λ (l : Lent Found). l.answer.code) (searches.refuse_found point) (λ k. refl) _ _
    (first-row ns (search_faults c dq q (length point) how) (λ e. refl) (λ e. refl) (λ e. refl) (λ e. refl) (none ns 11) (none ns 5)
    (none ns 10) refl)
    refl
of_entry_lem (step_length dz ds z s dual_point primal_point how) c =
    let ns : List ℕ = 0 ∷ of_entry (step_length dz ds z s dual_point primal_point how) in
    settled ns (λ (l : LentTwo Steps). l.answer.code) (searches.refuse_steps dual_point primal_point) (λ k. refl) _ _
    (first-row ns (step_faults c dz ds z s (length dual_point) (length primal_point) how) (λ e. refl) (λ e. refl) (λ e. refl) (λ e. refl)
    (none ns 11) (none ns 5) (none ns 10) refl)
    refl
of_entry_lem (update_scaling r s z μ strategy) c =
    let ns : List ℕ = 0 ∷ of_entry (update_scaling r s z μ strategy) in
    settled ns (λ (u : Updated). u.code) (refuse_update (with_cone c r)) (λ k. refl) _ _
    (first-row ns _ (λ e. refl) (λ e. refl) (λ e. refl) (λ e. refl) (λ e. refl) (none ns 5) (none ns 10) refl)
    (by_record ns refl refl (λ (u : Updated). u.code) (refuse_update (with_cone c r)) (λ k. refl) refl _ _ (λ new. refl))
of_entry_lem (gradient_primal r g s) c =
    let ns : List ℕ = 0 ∷ of_entry (gradient_primal r g s) in
    settled ns (λ (l : Lent Rounds). l.answer.code) (refuse_rounds g) (λ k. refl) _ _
    (first-row ns _ (λ e. refl) (λ e. refl) (λ e. refl) (none ns 4) (none ns 11) (none ns 5) (none ns 10) refl)
    (either ns (λ (l : Lent Rounds). l.answer.code) (eqb c.kind 3) _ _ (with_rounds_lem ns refl refl _ g _)
    (by_panics ns refl refl refl g (three.gradient_primal_of c.kind (alpha_of c) (three_of s))))
of_entry_lem (barrier_primal r s) c =
    let ns : List ℕ = 0 ∷ of_entry (barrier_primal r s) in
    settled ns (λ (n : Number). n.code) refuse_number (λ k. refl) _ _
    (first-row ns _ (λ e. refl) (λ e. refl) (λ e. refl) (none ns 4) (none ns 11) (none ns 5) (none ns 10) refl)
    (judged ns refl refl refl _)
of_entry_lem (compute_barrier r z s dz ds step) c =
    let ns : List ℕ = 0 ∷ of_entry (compute_barrier r z s dz ds step) in
    settled ns (λ (n : Number). n.code) refuse_number (λ k. refl) _ _
    (first-row ns _ (λ e. refl) (λ e. refl) (λ e. refl) (none ns 4) (none ns 11) (none ns 5) (none ns 10) refl)
    (judged ns refl refl refl _)
of_entry_lem (get_hs r serial block) c =
    let ns : List ℕ = 0 ∷ of_entry (get_hs r serial block) in
    settled ns (λ (l : Lent ℕ). l.answer) (refuse block) (λ k. refl) _ _
    (first-row ns _ (λ e. refl) (λ e. refl) (λ e. refl) (none ns 4) (none ns 11) (λ e. refl) (λ e. refl) refl)
    (either ns (λ (l : Lent ℕ). l.answer) (eqb c.kind 3) _ _ (published ns refl refl block _) (published ns refl refl block _))
of_entry_lem (mul_hs r serial y x) c =
    let ns : List ℕ = 0 ∷ of_entry (mul_hs r serial y x) in
    settled ns (λ (l : Lent ℕ). l.answer) (refuse y) (λ k. refl) _ _
    (first-row ns _ (λ e. refl) (λ e. refl) (λ e. refl) (none ns 4) (none ns 11) (λ e. refl) (λ e. refl) refl)
    (either ns (λ (l : Lent ℕ). l.answer) (eqb c.kind 3) _ _ (published ns refl refl y _) (published ns refl refl y _))
of_entry_lem (higher_correction r serial η ds v) c =
    let ns : List ℕ = 0 ∷ of_entry (higher_correction r serial η ds v) in
    settled ns (λ (l : Lent ℕ). l.answer) (refuse η) (λ k. refl) _ _
    (first-row ns _ (λ e. refl) (λ e. refl) (λ e. refl) (none ns 4) (none ns 11) (λ e. refl) (λ e. refl) refl)
    (published ns refl refl η _)
of_entry_lem (combined_ds_shift r serial out stepz steps σμ) c =
    let ns : List ℕ = 0 ∷ of_entry (combined_ds_shift r serial out stepz steps σμ) in
    settled ns (λ (l : Lent ℕ). l.answer) (refuse out) (λ k. refl) _ _
    (first-row ns _ (λ e. refl) (λ e. refl) (λ e. refl) (none ns 4) (none ns 11) (λ e. refl) (λ e. refl) refl)
    (published ns refl refl out _)

-- ---- the others

-- the sheet of one file names no file but its own
no_nine : (bs : List ℕ) (P : Type 0)
    → let h = rows.held (sheet_of (bs ∷ [])) in
    not (rows.names_ok h.totals.files h.totals.dual h.totals.primal) ≡ true → P
unfolding rows.held
no_nine bs P e = absurd (false_not_true (sym (ap not (sheet_named (bs ∷ []))) ∙ e))

opening : (bs : List ℕ) (b : Bool) → good_trace bs ≡ b → among (opened_of bs).code (0 ∷ numbers_of (trace_open bs)) ≡ true
unfolding opened_of open_of among numbers_of
opening bs true e = rw e
opening bs false e = rw e

pub only_these : OnlyThese
unfolding among made number_in numbers_of plan_faults sides_faults plans.common_step_of plans.plan_step_of writing.create_of writing.append_rows
    writing.append_of recording.put_rows recording.record_put_of recording.record_at_of recording.seal_rows recording.trace_seal_of
    value.recorded_in value.recorded_of value.refused_record replays.replay_of rescues.rescue_of thins.thin_of thins.thin_in_place_of rows.join_code
    rows.join_of rows.add_of rows.holding rows.totals_of text.print_of
only_these (entry e c) = of_entry_lem e c
only_these (common_step cs primal dq q point s) =
    let ns : List ℕ = 0 ∷ numbers_of (common_step cs primal dq q point s) in
    settled ns (λ (l : Lent Found). l.answer.code) (searches.refuse_found point) (λ k. refl) _ _
    (first-row ns (plan_faults cs dq q (length point) s) (λ e. refl) (λ e. refl) (λ e. refl) (λ e. refl) (none ns 11) (none ns 5)
    (none ns 10) refl)
    refl
only_these (plan_step cs dz ds z s dual_point primal_point how) =
    let ns : List ℕ = 0 ∷ numbers_of (plan_step cs dz ds z s dual_point primal_point how) in
    settled ns (λ (l : LentTwo Found). l.answer.code) (plans.refuse_sides dual_point primal_point) (λ k. refl) _ _
    (first-row ns (sides_faults cs dz ds z s (length dual_point) (length primal_point) how) (λ e. refl) (λ e. refl) (λ e. refl) (λ e. refl)
    (none ns 11) (none ns 5) (none ns 10) refl)
    refl
only_these (trace_create bytes) =
    let ns : List ℕ = 0 ∷ numbers_of (trace_create bytes) in
    either ns (λ (l : writing.Left). l.answer.code) (ltb (length bytes) 20) _ _ refl refl
only_these (trace_append bytes used a) =
    let ns : List ℕ = 0 ∷ numbers_of (trace_append bytes used a) in
    settled ns (λ (l : writing.Left). l.answer.code) (writing.refuse bytes) (λ k. refl) _ _
    (trace-row ns _ _ (λ e. refl) (λ e. refl) refl) refl
only_these (trace_open bytes) = opening bytes (good_trace bytes) refl
only_these (trace_record bytes i) =
    let ns : List ℕ = 0 ∷ numbers_of (trace_record bytes i) in
    either ns (λ (r : Recorded). r.code) (good_trace bytes && ltb i (count_at bytes)) _ _ refl refl
only_these (record_put bytes at edition a) =
    let ns : List ℕ = 0 ∷ numbers_of (record_put bytes at edition a) in
    settled ns (λ (l : writing.Left). l.answer.code) (writing.refuse bytes) (λ k. refl) _ _
    (trace-row ns _ _ (λ e. refl) (λ e. refl) refl) refl
only_these (record_at bytes edition at) =
    let ns : List ℕ = 0 ∷ numbers_of (record_at bytes edition at) in
    either ns (λ (r : Recorded). r.code) (known edition && laid_at edition (drop at bytes)) _ _ refl refl
only_these (trace_seal bytes used edition) =
    let ns : List ℕ = 0 ∷ numbers_of (trace_seal bytes used edition) in
    settled ns (λ (l : writing.Left). l.answer.code) (writing.refuse bytes) (λ k. refl) _ _
    (trace-row ns _ _ (λ e. refl) (λ e. refl) refl) refl
only_these (replay bytes offsets) =
    let ns : List ℕ = 0 ∷ numbers_of (replay bytes offsets) in
    settled ns (λ (l : replays.Noted). l.answer.code) (replays.refuse offsets) (λ k. refl) _ _
    (trace-row ns _ _ (λ e. refl) (λ e. refl) refl) refl
only_these (rescue input output edition) =
    let ns : List ℕ = 0 ∷ numbers_of (rescue input output edition) in
    settled ns (λ (l : rescues.Saved). l.answer.code) (rescues.refuse output) (λ k. refl) _ _
    (trace-row ns _ _ (λ e. refl) (λ e. refl) refl) refl
only_these (thin bytes output) =
    let ns : List ℕ = 0 ∷ numbers_of (thin bytes output) in
    settled ns (λ (l : thins.Left). l.answer.code) (thins.refuse output) (λ k. refl) _ _
    (trace-row ns _ _ (λ e. refl) (λ e. refl) refl) refl
only_these (thin_in_place bytes) =
    let ns : List ℕ = 0 ∷ numbers_of (thin_in_place bytes) in
    settled ns (λ (l : thins.Left). l.answer.code) (thins.refuse bytes) (λ k. refl) _ _
    (trace-row ns _ _ (λ e. refl) (none ns 8) refl) refl
only_these (sheet_add h file) =
    let ns : List ℕ = 0 ∷ numbers_of (sheet_add h file) in
    settled ns (λ (l : rows.Held). l.totals.code) (rows.refuse h) (λ k. refl) _ _
    (sheet_row_lem ns _ _ _ refl (no_nine file _) refl refl) refl
only_these (sheet_join h second) =
    let ns : List ℕ = 0 ∷ numbers_of (sheet_join h second) in
    settled ns (λ (l : rows.Held). l.totals.code) (rows.refuse h) (λ k. refl) _ _
    (sheet_row_lem ns _ _ _ refl (λ e. refl) refl refl) refl
only_these (sheet_text bytes h) =
    let ns : List ℕ = 0 ∷ numbers_of (sheet_text bytes h) in
    settled ns (λ (l : text.Told). l.answer.code) (text.refuse bytes) (λ k. refl) _ _
    (sheet_row_lem ns _ _ _ refl (λ e. refl) refl refl) refl

-- ---- rows without 5, 6 and 7

unfoldable none-late : List ℕ → Bool
none-late [] = true
none-late (n ∷ ns) = not (among n (5 ∷ 6 ∷ 7 ∷ [])) && none-late ns

of-not : (b : Bool) → not b ≡ true → b ≡ false
of-not true h = sym h
of-not false h = refl

not_late : (ns : List ℕ) → none-late ns ≡ true → (k : ℕ) → among k ns ≡ true → NotFiveSixSeven k
unfolding none-late among
not_late [] n k h = absurd (false_not_true h)
not_late (m ∷ ns) n k h =
    let late = among m (5 ∷ 6 ∷ 7 ∷ []) in
    first-or NotFiveSixSeven k m (eqb k m) (among k ns) refl h (of-not late (and_left (not late) (none-late ns) n))
    (λ rest. not_late ns (and_right (not late) (none-late ns) n) k rest)

pub tests_and_searches : TestsAndSearches
unfolding none-late among of_entry numbers_of
tests_and_searches = record {
  primal_test = λ c s. let a = entry (is_primal_feasible s) c in not_late (0 ∷ numbers_of a) refl (number_of a) (only_these a);
  dual-test = λ c z. let a = entry (is_dual_feasible z) c in not_late (0 ∷ numbers_of a) refl (number_of a) (only_these a);
  backtrack_search_lem = λ c primal dq q point how.
      let a = entry (backtrack_search primal dq q point how) c in not_late (0 ∷ numbers_of a) refl (number_of a) (only_these a);
  step_length_lem = λ c dz ds z s dual_point primal_point how.
      let a = entry (step_length dz ds z s dual_point primal_point how) c in not_late (0 ∷ numbers_of a) refl (number_of a) (only_these a);
  common_step_lem = λ cs primal dq q point how.
      let a = common_step cs primal dq q point how in not_late (0 ∷ numbers_of a) refl (number_of a) (only_these a);
  plan_step_lem = λ cs dz ds z s dual_point primal_point how.
      let a = plan_step cs dz ds z s dual_point primal_point how in not_late (0 ∷ numbers_of a) refl (number_of a) (only_these a);
}
