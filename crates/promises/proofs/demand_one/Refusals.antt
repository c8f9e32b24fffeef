-- Demand 1 over all calls: each is settled by its rows, and some again on the way to their answer; whatever settles it with another number
-- than 0 leaves the refusal of that number. Assumes nothing.
use Prim.Native.Nat.{ℕ, zero, suc}
use mathlib.Core.Path.{◌≡◌, refl, sym, ap, ◌∙◌}
use mathlib.Core.Bool.{Bool, true, false, cond, ◌&&◌}
use mathlib.Core.List.{List}
use lib.Dec.{eqb, ltb}
use Rattle.std.specs.Prelude.{Option, Some, None}
use lib.Ieee.{Float}
use lib.Ieee.Scale.{finite}
use lib.ListN.{length, drop}
use borrow.Author.Tests.{ne_eqb}
use Rattle.cone.specs.declared.Cone.{Cone}
use Rattle.cone.specs.declared.verdict.Verdict.{Verdict}
use Rattle.cone.specs.declared.Updated.{Updated}
use Rattle.cone.specs.declared.Number.{Number}
use Rattle.cone.specs.declared.Scaling.{Scaling}
use Rattle.cone.specs.declared.Rounds.{Rounds}
use Rattle.cone.specs.declared.Found.{Found}
use Rattle.cone.specs.declared.Steps.{Steps}
use Rattle.cone.specs.declared.DualGrad.{DualGrad}
use Rattle.cone.specs.declared.YesNo.{YesNo}
use Rattle.cone.specs.Fresh as made_fresh
use Rattle.cone.specs.Fresh.{empty_cone, no_three, no_wide}
use Rattle.cone.specs.Points.{three_of}
use Rattle.cone.specs.table.Table.{settle}
use Rattle.judges.specs.Judges.{all_finite}
use Rattle.judges.specs.Refusals as shared
use Rattle.judges.specs.Refusals.{Lent, LentTwo, refuse, refuse_two, refuse_number, refuse_rounds, refuse_update, publish_of, publish_two_of}
use Rattle.judges.specs.Refusals.{last_rows, settle_record, judged_of, counted_of, with_rounds}
use Rattle.kinds.specs.declared.three.ThreeGradient.{ThreeGradient}
use Rattle.kinds.specs.Cones.{alpha_of}
use Rattle.kinds.specs.Three as three
use Rattle.call_cone.specs.formulas.Entries as cones
use Rattle.call_search.specs.single.Entries as searches
use Rattle.call_search.specs.plans.Entries as plans
use Rattle.call_record.specs.update.Entries as updates
use Rattle.call_record.specs.three.Entries as three_entries
use Rattle.call_record.specs.entries.Entries as records
use Rattle.trace.specs.judge.Opening.{open_of}
use Rattle.trace.specs.declared.entries.Opened.{Opened}
use Rattle.trace.specs.declared.value.Recorded.{Recorded}
use Rattle.trace.specs.entries.Opened.{opened_of}
use Rattle.trace.specs.entries.Writing as writing
use Rattle.trace.specs.recording.Recording as recording
use Rattle.trace.specs.value.Recorded as value
use Rattle.trace_layout.specs.Records.{laid_at}
use Rattle.trace_layout.specs.Traces.{known, good_trace, count_at}
use Rattle.trace_replay.specs.call.Replay as replays
use Rattle.trace_rescue.specs.call.Rescue as rescues
use Rattle.trace_thin.specs.call.Thin as thins
use Rattle.trace_sheet.specs.rows.Rows as rows
use Rattle.trace_sheet.specs.text.Printed as text
use Rattle.promises.specs.rules.Entries.{Entry, call, code_of, with_cone, verdict, number, dual_grad, written, written_two, rectified, counted}
use Rattle.promises.specs.rules.Entries.{found, found_two, updated, fresh, is_primal_feasible, is_dual_feasible, barrier_dual, dual_grad_h}
use Rattle.promises.specs.rules.Entries.{unit_initialization, rectify_equilibration, affine_ds, ds_from_dz_offset, backtrack_search, step_length}
use Rattle.promises.specs.rules.Entries.{update_scaling, gradient_primal, barrier_primal, compute_barrier}
use Rattle.promises.specs.rules.Entries.{get_hs, mul_hs, higher_correction, combined_ds_shift}
use Rattle.promises.specs.demand_one.Calls.{made, number_in, entry, common_step, plan_step, trace_create, trace_append, trace_open}
use Rattle.promises.specs.demand_one.Calls.{trace_record, record_put, record_at, trace_seal, replay, rescue, thin, thin_in_place, sheet_add, sheet_join, sheet_text}
use Rattle.promises.specs.demand_one.Calls.{answered, common, both, wrote, opened, recorded, replayed, rescued, thinned, summed, printed}
use Rattle.promises.specs.demand_one.Refusals.{refused_entry, refused, DemandOne}

-- ---- whatever a call answers with, its number and its refusals

module _ {A : Type 0} (code : A → ℕ) (refusal : ℕ → A) where
  abbrev Refuses : A → Type 0
  Refuses x = (code x ≡ 0 → ⊥) → x ≡ refusal (code x)

  done : (x : A) → code x ≡ 0 → Refuses x
  done x e n = absurd (n e)

  either : (b : Bool) (x y : A) → Refuses x → Refuses y → Refuses (cond b x y)
  either true x y p q = p
  either false x y p q = q

  module _ (carries : (k : ℕ) → code (refusal k) ≡ k) where
    with_number : (k : ℕ) → Refuses (refusal k)
    with_number k n = ap refusal (sym (carries k))

    settled : (k : ℕ) (x : A) → Refuses x → Refuses (settle k x refusal)
    unfolding settle
    settled zero x p = p
    settled (suc k) x p = with_number (suc k)

    -- a new record, or 6 or 7
    by_record : (made : Option Scaling) (finish : Scaling → A) → ((new : Scaling) → Refuses (finish new))
        → Refuses (settle_record made finish refusal)
    unfolding settle_record
    by_record None finish p = with_number 6
    by_record (Some new) finish p = settled (last_rows (Some new)) (finish new) (p new)

-- ---- an answer that is published, or refused with 6 or 7

abbrev answer : Lent ℕ → ℕ
answer l = l.answer

abbrev pair_answer : LentTwo ℕ → ℕ
pair_answer l = l.answer

published : (old ans : List Float) → Refuses answer (refuse old) (publish_of old ans)
unfolding publish_of
published old ans = either answer (refuse old) (all_finite ans) _ _ (done answer (refuse old) _ refl) (with_number answer (refuse old) (λ k. refl) 7)

published-two : (x y a b : List Float) → Refuses pair_answer (refuse_two x y) (publish_two_of x y a b)
unfolding publish_two_of
published-two x y a b =
    either pair_answer (refuse_two x y) (all_finite a && all_finite b) _ _ (done pair_answer (refuse_two x y) _ refl)
    (with_number pair_answer (refuse_two x y) (λ k. refl) 7)

abbrev value_code : Number → ℕ
value_code n = n.code

a_number : (x : Float) → Refuses value_code refuse_number (shared.number_of x)
unfolding shared.number_of
a_number x = either value_code refuse_number (finite x) _ _ (done value_code refuse_number _ refl) (with_number value_code refuse_number (λ k. refl) 7)

judged : (x : Option Float) → Refuses value_code refuse_number (judged_of x)
unfolding judged_of
judged None = with_number value_code refuse_number (λ k. refl) 6
judged (Some x) = a_number x

abbrev rounds_code : Lent Rounds → ℕ
rounds_code l = l.answer.code

with_rounds_lem : (n : ℕ) (old ans : List Float) → Refuses rounds_code (refuse_rounds old) (with_rounds n (publish_of old ans))
unfolding publish_of counted_of
with_rounds_lem n old ans = go (all_finite ans)
  where
    go : (b : Bool) → Refuses rounds_code (refuse_rounds old) (with_rounds n (cond b (record { answer = 0; slice = ans }) (refuse old 7)))
    go true = done rounds_code (refuse_rounds old) _ refl
    go false = λ e. refl

-- 6: "Wright omega argument below 0"
by_panics : (g : List Float) (t : Option ThreeGradient) → Refuses rounds_code (refuse_rounds g) (three_entries.published g t)
by_panics g None = with_number rounds_code (refuse_rounds g) (λ k. refl) 6
by_panics g (Some t) = with_rounds_lem t.rounds g t.g

-- "yes, always" at 0, and so no beside another number
yes_if_done_lem : (δ : List Float) (l : Lent ℕ) → Refuses answer (refuse δ) l
    → Refuses (λ (x : Lent YesNo). x.answer.code) (λ k. record { answer = record { code = k; yes = false }; slice = δ }) (cones.yes_if_done l)
yes_if_done_lem δ l p n =
    ap cones.yes_if_done (p n)
    ∙ ap (λ (b : Bool). record { answer = record { code = l.answer; yes = b }; slice = δ }) (ne_eqb l.answer 0 n)

-- ---- the entries over one cone or record

abbrev verdict_code : Verdict → ℕ
verdict_code v = v.code

abbrev grad_code : DualGrad → ℕ
grad_code g = g.code

abbrev updated_code : Updated → ℕ
updated_code u = u.code

abbrev found_code : Lent Found → ℕ
found_code l = l.answer.code

abbrev steps_code : LentTwo Steps → ℕ
steps_code l = l.answer.code

abbrev both_code : LentTwo Found → ℕ
both_code l = l.answer.code

of_entry_lem : (e : Entry) (c : Cone) → (code_of (call e c) ≡ 0 → ⊥) → call e c ≡ refused_entry e c (code_of (call e c))
unfolding call code_of refused_entry made_fresh.fresh_of no_three no_wide cones.fresh_of cones.is_primal_feasible_of cones.is_dual_feasible_of
    cones.barrier_dual_of cones.dual_grad_h_of cones.refuse_grad cones.unit_initialization_of cones.rectify_of cones.rectify_equilibration_of
    cones.affine_ds_of cones.ds_from_dz_offset_of searches.backtrack_search_of searches.step_length_of updates.update_scaling_of
    records.gradient_primal_of records.barrier_primal_of records.compute_barrier_of records.get_hs_of records.mul_hs_of records.higher_correction_of
    records.combined_ds_shift_of
of_entry_lem fresh c n =
    let no : ℕ → Updated = λ k. record { code = k; scaling = made_fresh.fresh_of empty_cone } in
    ap updated (settled updated_code no (λ k. refl) _ _ (done updated_code no _ refl) n)
of_entry_lem (is_primal_feasible s) c n =
    let no = cones.refuse_verdict in ap verdict (settled verdict_code no (λ k. refl) _ _ (done verdict_code no _ refl) n)
of_entry_lem (is_dual_feasible z) c n =
    let no = cones.refuse_verdict in ap verdict (settled verdict_code no (λ k. refl) _ _ (done verdict_code no _ refl) n)
of_entry_lem (barrier_dual z) c n = ap number (settled value_code refuse_number (λ k. refl) _ _ (a_number _) n)
of_entry_lem (dual_grad_h z) c n =
    let no = cones.refuse_grad in
    ap dual_grad (settled grad_code no (λ k. refl) _ _ (by_record grad_code no (λ k. refl) _ _ (λ new. done grad_code no _ refl)) n)
of_entry_lem (unit_initialization z s) c n =
    let no = refuse_two z s in
    ap written_two (settled pair_answer no (λ k. refl) _ _
    (either pair_answer no (eqb c.kind 3) _ _ (published-two z s _ _) (published-two z s _ _)) n)
of_entry_lem (rectify_equilibration δ e) c n = ap rectified (yes_if_done_lem δ _ (settled answer (refuse δ) (λ k. refl) _ _ (published δ _)) n)
of_entry_lem (affine_ds ds s) c n = ap written (settled answer (refuse ds) (λ k. refl) _ _ (done answer (refuse ds) _ refl) n)
of_entry_lem (ds_from_dz_offset out ds z) c n = ap written (settled answer (refuse out) (λ k. refl) _ _ (done answer (refuse out) _ refl) n)
of_entry_lem (backtrack_search primal dq q point how) c n =
    let no = searches.refuse_found point in ap found (settled found_code no (λ k. refl) _ _ (done found_code no _ refl) n)
of_entry_lem (step_length dz ds z s dual_point primal_point how) c n =
    let no = searches.refuse_steps dual_point primal_point in
    ap found_two (settled steps_code no (λ k. refl) _ _ (done steps_code no _ refl) n)
of_entry_lem (update_scaling r s z μ strategy) c n =
    let no = refuse_update (with_cone c r) in
    ap updated (settled updated_code no (λ k. refl) _ _ (by_record updated_code no (λ k. refl) _ _ (λ new. done updated_code no _ refl)) n)
of_entry_lem (gradient_primal r g s) c n =
    let no = refuse_rounds g in
    ap counted (settled rounds_code no (λ k. refl) _ _
    (either rounds_code no (eqb c.kind 3) _ _ (with_rounds_lem _ g _) (by_panics g (three.gradient_primal_of c.kind (alpha_of c) (three_of s)))) n)
of_entry_lem (barrier_primal r s) c n = ap number (settled value_code refuse_number (λ k. refl) _ _ (judged _) n)
of_entry_lem (compute_barrier r z s dz ds step) c n = ap number (settled value_code refuse_number (λ k. refl) _ _ (judged _) n)
of_entry_lem (get_hs r serial block) c n =
    let no = refuse block in
    ap written (settled answer no (λ k. refl) _ _ (either answer no (eqb c.kind 3) _ _ (published block _) (published block _)) n)
of_entry_lem (mul_hs r serial y x) c n =
    let no = refuse y in
    ap written (settled answer no (λ k. refl) _ _ (either answer no (eqb c.kind 3) _ _ (published y _) (published y _)) n)
of_entry_lem (higher_correction r serial η ds v) c n = ap written (settled answer (refuse η) (λ k. refl) _ _ (published η _) n)
of_entry_lem (combined_ds_shift r serial out stepz steps σμ) c n = ap written (settled answer (refuse out) (λ k. refl) _ _ (published out _) n)

-- ---- the others

abbrev left_code : writing.Left → ℕ
left_code l = l.answer.code

abbrev recorded_code : Recorded → ℕ
recorded_code r = r.code

abbrev noted_code : replays.Noted → ℕ
noted_code l = l.answer.code

abbrev saved_code : rescues.Saved → ℕ
saved_code l = l.answer.code

abbrev thin_code : thins.Left → ℕ
thin_code l = l.answer.code

abbrev held_code : rows.Held → ℕ
held_code h = h.totals.code

abbrev told_code : text.Told → ℕ
told_code l = l.answer.code

opening : (bs : List ℕ) (b : Bool) → good_trace bs ≡ b
    → Refuses (λ (o : Opened). o.code) (λ k. record { code = k; edition = 0; records = 0 }) (opened_of bs)
unfolding opened_of open_of
opening bs true e n = absurd (n (rw e))
opening bs false e n = rw e

reading : (bs : List ℕ) (i : ℕ) → Refuses recorded_code value.refused_record (value.recorded_in bs i)
unfolding value.recorded_in value.recorded_of value.refused_record
reading bs i =
    either recorded_code value.refused_record (good_trace bs && ltb i (count_at bs)) _ _ (done recorded_code value.refused_record _ refl)
    (with_number recorded_code value.refused_record (λ k. refl) 9)

reading-at : (bs : List ℕ) (e at : ℕ) → Refuses recorded_code value.refused_record (recording.record_at_of bs e at)
unfolding recording.record_at_of value.recorded_of value.refused_record
reading-at bs e at =
    either recorded_code value.refused_record (known e && laid_at e (drop at bs)) _ _ (done recorded_code value.refused_record _ refl)
    (with_number recorded_code value.refused_record (λ k. refl) 9)

pub demand_one : DemandOne
unfolding made number_in refused plans.common_step_of plans.plan_step_of writing.create_of writing.append_of recording.record_put_of recording.trace_seal_of value.refused_record replays.replay_of
    rescues.rescue_of thins.thin_of thins.thin_in_place_of rows.join_of rows.add_of rows.holding rows.totals_of text.print_of
demand_one (entry e c) n = ap answered (of_entry_lem e c n)
demand_one (common_step cs primal dq q point s) n =
    let no = searches.refuse_found point in ap common (settled found_code no (λ k. refl) _ _ (done found_code no _ refl) n)
demand_one (plan_step cs dz ds z s dual_point primal_point how) n =
    let no = plans.refuse_sides dual_point primal_point in ap both (settled both_code no (λ k. refl) _ _ (done both_code no _ refl) n)
demand_one (trace_create bytes) n =
    let no = writing.refuse bytes in
    ap wrote (either left_code no (ltb (length bytes) 20) _ _ (with_number left_code no (λ k. refl) 8) (done left_code no _ refl) n)
demand_one (trace_append bytes used a) n =
    let no = writing.refuse bytes in ap wrote (settled left_code no (λ k. refl) _ _ (done left_code no _ refl) n)
demand_one (trace_open bytes) n = ap opened (opening bytes (good_trace bytes) refl n)
demand_one (trace_record bytes i) n = ap recorded (reading bytes i n)
demand_one (record_put bytes at edition a) n =
    let no = writing.refuse bytes in ap wrote (settled left_code no (λ k. refl) _ _ (done left_code no _ refl) n)
demand_one (record_at bytes edition at) n = ap recorded (reading-at bytes edition at n)
demand_one (trace_seal bytes used edition) n =
    let no = writing.refuse bytes in ap wrote (settled left_code no (λ k. refl) _ _ (done left_code no _ refl) n)
demand_one (replay bytes offsets) n =
    let no = replays.refuse offsets in ap replayed (settled noted_code no (λ k. refl) _ _ (done noted_code no _ refl) n)
demand_one (rescue input output edition) n =
    let no = rescues.refuse output in ap rescued (settled saved_code no (λ k. refl) _ _ (done saved_code no _ refl) n)
demand_one (thin bytes output) n =
    let no = thins.refuse output in ap thinned (settled thin_code no (λ k. refl) _ _ (done thin_code no _ refl) n)
demand_one (thin_in_place bytes) n =
    let no = thins.refuse bytes in ap thinned (settled thin_code no (λ k. refl) _ _ (done thin_code no _ refl) n)
demand_one (sheet_add h file) n =
    let no = rows.refuse h in ap summed (settled held_code no (λ k. refl) _ _ (done held_code no _ refl) n)
demand_one (sheet_join h second) n =
    let no = rows.refuse h in ap summed (settled held_code no (λ k. refl) _ _ (done held_code no _ refl) n)
demand_one (sheet_text bytes h) n =
    let no = text.refuse bytes in ap printed (settled told_code no (λ k. refl) _ _ (done told_code no _ refl) n)
