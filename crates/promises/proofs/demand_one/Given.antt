-- Each number of a row but 6 and 7 is given by a call of that row: examples of each call, in the order of its row, whose numbers are
-- computed. A replay's 8 is that of a trace whose one record differs. Assumes nothing.
use Prim.Native.Nat.{ℕ, ◌^◌, ◌<◌}
use mathlib.Core.Path.{◌≡◌, refl, ap}
use mathlib.Core.Bool.{Bool, true, false, ◌&&◌}
use mathlib.Core.List.{List, [], ◌∷◌}
use native.Mathlib.Omega.{arith}
use lib.Dec.{eqb}
use lib.Ieee.{Float, nan, lt, le, eq, of_bits, to_bits}
use lib.ListN.{replicate}
use borrow.Author.Tests.{eqb-true}
use Rattle.arith.proofs.Branches.{false_not_true, and_left, and_right}
use Rattle.double.specs.Numbers.{#0, #½, #1}
use Rattle.octets.specs.words.Words.{AllBelow, le as spell, spelled, word_at, row_bytes}
use Rattle.octets.specs.words.Runs.{runs_size, runs_bytes}
use Rattle.cone.specs.declared.Scaling.{Scaling}
use Rattle.cone.specs.declared.Settings.{Settings}
use Rattle.cone.specs.Codes.{numel_of, block_of}
use Rattle.cone.specs.Fresh as made_fresh
use Rattle.cone.specs.table.Table.{first_row, trace_row, settle}
use Rattle.judges.specs.Judges.{all_of, three_ok, cone_ok_within, cone_ok, three_finite, record_finite}
use Rattle.search.specs.plan.Plans.{total_of, all_cones_ok, plan_ok}
use Rattle.call_cone.specs.formulas.Rows.{fresh_faults, read_faults, unit_faults, copy_faults, offset_faults}
use Rattle.call_cone.specs.formulas.Entries as cones
use Rattle.call_search.specs.single.Rows.{search_faults, step_faults}
use Rattle.call_search.specs.single.Entries as searches
use Rattle.call_search.specs.plans.Rows.{plan_faults, sides_faults}
use Rattle.call_search.specs.plans.Entries as plans
use Rattle.call_record.specs.update.Entries as updates
use Rattle.call_record.specs.entries.Rows.{gradient_rows, barrier_rows, compute_rows, block_rows, product_rows, correction_rows}
use Rattle.call_record.specs.entries.Entries as records
use Rattle.trace_layout.specs.Inverses.{Makes}
use Rattle.trace_layout.specs.Records.{Record, runs_for, rules_in, exponents, settings_in, rows_in, bytes_of, dims_ok, step_ok, shape_ok, laid_at}
use Rattle.trace_layout.specs.Traces.{AllLaid, known, records_bytes, offsets_from, trailer_of, trace_of, trailer_ok, walks, good_trace}
use Rattle.trace_layout.specs.Traces.{records_in, records_of}
use Rattle.trace_layout.specs.pieces.Entries.{record_of}
use Rattle.trace_layout.proofs.Inverses.{traces_inverse}
use Rattle.trace.specs.places.Given.{entry_of, can_lay}
use Rattle.trace.specs.judge.Opening.{open_of}
use Rattle.trace.specs.entries.Opened.{opened_of}
use Rattle.trace.specs.entries.Writing as writing
use Rattle.trace.specs.recording.Recording as recording
use Rattle.trace.specs.value.Recorded as value
use Rattle.trace.specs.whole.Whole.{whole_in}
use Rattle.trace.specs.kept.Made as appends
use Rattle.trace_replay.specs.call.Replay as replays
use Rattle.trace_rescue.specs.call.Rescue as rescues
use Rattle.trace_thin.specs.call.Thin as thins
use Rattle.trace_thin.specs.firsts.Firsts.{firsts_behind}
use Rattle.trace_sheet.specs.declared.counts.Largest.{Largest}
use Rattle.trace_sheet.specs.counts.Counts.{largest_of}
use Rattle.trace_sheet.specs.counts.Sheet.{taken, entries_of, entries_from, sheet_of}
use Rattle.trace_sheet.proofs.counts.Rows.{length-counts}
use Rattle.trace_sheet.specs.rows.Rows as rows
use Rattle.trace_sheet.specs.text.Printed as text
use Rattle.promises.specs.border.Rows.{exponential, triple, settings}
use Rattle.promises.specs.rules.Entries.{Entry, call, code_of, fresh, is_primal_feasible, is_dual_feasible, barrier_dual, dual_grad_h}
use Rattle.promises.specs.rules.Entries.{unit_initialization, rectify_equilibration, affine_ds, ds_from_dz_offset, backtrack_search}
use Rattle.promises.specs.rules.Entries.{step_length}
use Rattle.promises.specs.rules.Entries.{update_scaling, gradient_primal, barrier_primal, compute_barrier}
use Rattle.promises.specs.rules.Entries.{get_hs, mul_hs, higher_correction, combined_ds_shift}
use Rattle.promises.specs.demand_one.Calls.{Call, made, number_in, number_of, entry, common_step, plan_step, trace_create, trace_append}
use Rattle.promises.specs.demand_one.Calls.{trace_open, trace_record, record_put, record_at, trace_seal, replay, rescue, thin, thin_in_place}
use Rattle.promises.specs.demand_one.Calls.{sheet_add, sheet_join, sheet_text}
use Rattle.promises.specs.demand_one.Refusals.{zero_cone, zero_three, zero_wide, zero_steps, zero_largest}
use Rattle.promises.specs.demand_one.Numbers.{of_entry, numbers_of, among, row_of_entry, row_of, by_arguments, AllGiven}
use Rattle.promises.proofs.demand_one.Numbers.{first-or}
use Rattle.promises.proofs.replay_kept.Replays.{no_rule_differs}

-- ---- calls of the row r that give these numbers, one each

unfoldable gives : ℕ → List ℕ → List Call → Bool
gives r [] calls = true
gives r (n ∷ ns) [] = false
gives r (n ∷ ns) (a ∷ later) = eqb (row_of a) r && (eqb (number_of a) n && gives r ns later)

pick : (r : ℕ) (ns : List ℕ) (calls : List Call) → gives r ns calls ≡ true
    → (k : ℕ) → among k ns ≡ true → (b : Call) × (row_of b ≡ r) × (number_of b ≡ k)
unfolding gives among
pick r [] calls g k h = absurd (false_not_true h)
pick r (n ∷ ns) [] g k h = absurd (false_not_true g)
pick r (n ∷ ns) (a ∷ later) g k h =
    let behind = and_right (eqb (row_of a) r) (eqb (number_of a) n && gives r ns later) g in
    first-or (λ (m : ℕ). (b : Call) × (row_of b ≡ r) × (number_of b ≡ m)) k n (eqb k n) (among k ns) refl h
    (a, eqb-true (row_of a) r (and_left (eqb (row_of a) r) _ g), eqb-true (number_of a) n (and_left (eqb (number_of a) n) _ behind))
    (λ rest. pick r ns later (and_right (eqb (number_of a) n) (gives r ns later) behind) k rest)

-- ---- entries

abbrev zeros : List Float
zeros = triple #0 #0 #0

abbrev nans : List Float
nans = triple nan nan nan

abbrev block : List Float
block = replicate 6 #0

abbrev good : Settings
good = settings #1 #½ #½

abbrev bad : Settings
bad = settings #0 #½ #½

-- a record of the exponential cone, scaled or not, of a serial
abbrev held : ℕ → ℕ → Scaling
held scaled serial = record { cone = exponential; scaled = scaled; serial = serial; three = zero_three; wide = zero_wide }

abbrev with_nan : Scaling
with_nan = record {
  cone = exponential;
  scaled = 1;
  serial = 0;
  three = record { z = nans; grad = zeros; hdual = block; hs = block };
  wide = zero_wide;
}

abbrev of : Entry → Call
of e = entry e exponential

abbrev bare : Entry → Call
bare e = entry e zero_cone

unfoldable of_entry_lem : Entry → List Call
of_entry_lem fresh = bare fresh ∷ []
of_entry_lem (is_primal_feasible s) = bare (is_primal_feasible zeros) ∷ of (is_primal_feasible []) ∷ of (is_primal_feasible nans) ∷ []
of_entry_lem (is_dual_feasible z) = bare (is_dual_feasible zeros) ∷ of (is_dual_feasible []) ∷ of (is_dual_feasible nans) ∷ []
of_entry_lem (barrier_dual z) = bare (barrier_dual zeros) ∷ of (barrier_dual []) ∷ of (barrier_dual nans) ∷ []
of_entry_lem (dual_grad_h z) = bare (dual_grad_h zeros) ∷ of (dual_grad_h []) ∷ of (dual_grad_h nans) ∷ []
of_entry_lem (unit_initialization z s) = bare (unit_initialization zeros zeros) ∷ of (unit_initialization zeros []) ∷ []
of_entry_lem (rectify_equilibration δ e) =
    bare (rectify_equilibration zeros zeros) ∷ of (rectify_equilibration [] zeros) ∷ of (rectify_equilibration zeros nans) ∷ []
of_entry_lem (affine_ds ds s) = bare (affine_ds zeros zeros) ∷ of (affine_ds [] zeros) ∷ of (affine_ds zeros nans) ∷ []
of_entry_lem (ds_from_dz_offset out ds z) =
    bare (ds_from_dz_offset zeros zeros zeros) ∷ of (ds_from_dz_offset zeros zeros []) ∷ of (ds_from_dz_offset zeros zeros nans) ∷ []
of_entry_lem (backtrack_search primal dq q point how) =
    bare (backtrack_search true zeros zeros zeros good) ∷ of (backtrack_search true zeros zeros [] good)
    ∷ of (backtrack_search true nans zeros zeros good) ∷ of (backtrack_search true zeros zeros zeros bad) ∷ []
of_entry_lem (step_length dz ds z s dual_point primal_point how) =
    bare (step_length zeros zeros zeros zeros zeros zeros good) ∷ of (step_length zeros zeros zeros zeros zeros [] good)
    ∷ of (step_length zeros zeros zeros nans zeros zeros good) ∷ of (step_length zeros zeros zeros zeros zeros zeros bad) ∷ []
of_entry_lem (update_scaling r s z μ strategy) =
    bare (update_scaling (held 0 0) zeros zeros #1 1) ∷ of (update_scaling (held 0 0) zeros [] #1 1)
    ∷ of (update_scaling (held 0 0) zeros zeros nan 1) ∷ of (update_scaling (held 0 0) zeros zeros #1 3)
    ∷ of (update_scaling (held 0 4294967295) zeros zeros #1 1) ∷ []
of_entry_lem (gradient_primal r g s) =
    bare (gradient_primal (held 0 0) zeros zeros) ∷ of (gradient_primal (held 0 0) [] zeros) ∷ of (gradient_primal (held 0 0) zeros nans) ∷ []
of_entry_lem (barrier_primal r s) =
    bare (barrier_primal (held 0 0) zeros) ∷ of (barrier_primal (held 0 0) []) ∷ of (barrier_primal (held 0 0) nans) ∷ []
of_entry_lem (compute_barrier r z s dz ds step) =
    bare (compute_barrier (held 0 0) zeros zeros zeros zeros #1) ∷ of (compute_barrier (held 0 0) [] zeros zeros zeros #1)
    ∷ of (compute_barrier (held 0 0) zeros zeros zeros zeros nan) ∷ []
of_entry_lem (get_hs r serial b) =
    bare (get_hs (held 1 0) 0 block) ∷ of (get_hs (held 1 0) 0 []) ∷ of (get_hs with_nan 0 block) ∷ of (get_hs (held 0 0) 0 block)
    ∷ of (get_hs (held 1 0) 1 block) ∷ []
of_entry_lem (mul_hs r serial y x) =
    bare (mul_hs (held 1 0) 0 zeros zeros) ∷ of (mul_hs (held 1 0) 0 [] zeros) ∷ of (mul_hs (held 1 0) 0 zeros nans)
    ∷ of (mul_hs (held 0 0) 0 zeros zeros) ∷ of (mul_hs (held 1 0) 1 zeros zeros) ∷ []
of_entry_lem (higher_correction r serial η ds v) =
    bare (higher_correction (held 1 0) 0 zeros zeros zeros) ∷ of (higher_correction (held 1 0) 0 zeros zeros [])
    ∷ of (higher_correction (held 1 0) 0 zeros zeros nans) ∷ of (higher_correction (held 0 0) 0 zeros zeros zeros)
    ∷ of (higher_correction (held 1 0) 1 zeros zeros zeros) ∷ []
of_entry_lem (combined_ds_shift r serial out stepz steps σμ) =
    bare (combined_ds_shift (held 1 0) 0 zeros zeros zeros #1) ∷ of (combined_ds_shift (held 1 0) 0 zeros zeros [] #1)
    ∷ of (combined_ds_shift (held 1 0) 0 zeros zeros zeros nan) ∷ of (combined_ds_shift (held 0 0) 0 zeros zeros zeros #1)
    ∷ of (combined_ds_shift (held 1 0) 1 zeros zeros zeros #1) ∷ []

entries_give : (e : Entry) → gives (row_of_entry e) (by_arguments (of_entry e)) (of_entry_lem e) ≡ true
unfolding gives row_of_entry row_of by_arguments of_entry of_entry_lem made number_in call code_of first_row settle numel_of block_of all_of three_ok
    cone_ok_within cone_ok three_finite record_finite lt le eq of_bits fresh_faults read_faults unit_faults copy_faults offset_faults search_faults
    step_faults gradient_rows barrier_rows compute_rows block_rows product_rows correction_rows made_fresh.fresh_of cones.fresh_of
    cones.is_primal_feasible_of cones.is_dual_feasible_of cones.barrier_dual_of cones.dual_grad_h_of cones.refuse_grad cones.unit_initialization_of
    cones.rectify_of cones.rectify_equilibration_of cones.affine_ds_of cones.ds_from_dz_offset_of searches.backtrack_search_of searches.step_length_of
    updates.update_rows updates.update_scaling_of records.gradient_primal_of records.barrier_primal_of records.compute_barrier_of records.get_hs_of
    records.mul_hs_of records.higher_correction_of records.combined_ds_shift_of
entries_give fresh = refl
entries_give (is_primal_feasible s) = refl
entries_give (is_dual_feasible z) = refl
entries_give (barrier_dual z) = refl
entries_give (dual_grad_h z) = refl
entries_give (unit_initialization z s) = refl
entries_give (rectify_equilibration δ e) = refl
entries_give (affine_ds ds s) = refl
entries_give (ds_from_dz_offset out ds z) = refl
entries_give (backtrack_search primal dq q point how) = refl
entries_give (step_length dz ds z s dual_point primal_point how) = refl
entries_give (update_scaling r s z μ strategy) = refl
entries_give (gradient_primal r g s) = refl
entries_give (barrier_primal r s) = refl
entries_give (compute_barrier r z s dz ds step) = refl
entries_give (get_hs r serial b) = refl
entries_give (mul_hs r serial y x) = refl
entries_give (higher_correction r serial η ds v) = refl
entries_give (combined_ds_shift r serial out stepz steps σμ) = refl

-- ---- plans, traces and sheets

abbrev empty : List ℕ
empty = trace_of 3 []

abbrev search : appends.Call
search = record {
  cone = exponential;
  flag = 0;
  settings = good;
  dz = zeros;
  ds = zeros;
  z = zeros;
  s = zeros;
  steps = zero_steps 0;
}

-- a record whose rule is none, and the trace of it
abbrev no_rule : Record
no_rule = record {
  kind = 1;
  dim1 = 3;
  dim2 = 0;
  rule = 0;
  exps = [];
  start = 0;
  flag = 1;
  settings = [];
  dz = replicate 3 0;
  ds = replicate 3 0;
  z = replicate 3 0;
  s = replicate 3 0;
  dualstep = 0;
  dualcount = 0;
  primalstep = 0;
  primalcount = 0;
}

abbrev astray : List ℕ
astray = trace_of 3 (no_rule ∷ [])

-- rows of no places
abbrev bare_rows : rows.Held
bare_rows = record {
  totals = record { code = 0; files = 0; records = 0; dual = zero_largest; primal = zero_largest };
  dual = [];
  primal = [];
  skipped = [];
}

-- rows of all places, with so many files and flags; the largest of a side
abbrev zero-rows : ℕ → ℕ → Largest → rows.Held
zero-rows files flags dual = record {
  totals = record { code = 0; files = files; records = 0; dual = dual; primal = zero_largest };
  dual = replicate 2048 0;
  primal = replicate 2048 0;
  skipped = replicate flags 0;
}

-- a count in file 2 of one file
abbrev no_file : Largest
no_file = record { size = 1; file = 2; at = 0 }

unfoldable of-call : Call → List Call
of-call (entry e c) = of_entry_lem e
of-call (common_step cs primal dq q point s) =
    common_step [] true zeros zeros zeros good ∷ common_step (exponential ∷ []) true zeros zeros [] good
    ∷ common_step (exponential ∷ []) true zeros nans zeros good ∷ common_step (exponential ∷ []) true zeros zeros zeros bad ∷ []
of-call (plan_step cs dz ds z s dual_point primal_point how) =
    plan_step [] zeros zeros zeros zeros zeros zeros good ∷ plan_step (exponential ∷ []) zeros zeros zeros zeros zeros [] good
    ∷ plan_step (exponential ∷ []) zeros zeros zeros nans zeros zeros good
    ∷ plan_step (exponential ∷ []) zeros zeros zeros zeros zeros zeros bad ∷ []
of-call (trace_create bytes) = trace_create [] ∷ []
of-call (trace_append bytes used a) = trace_append [] 0 search ∷ trace_append empty 20 search ∷ []
of-call (trace_open bytes) = trace_open [] ∷ []
of-call (trace_record bytes i) = trace_record [] 0 ∷ []
of-call (record_put bytes at edition a) = record_put [] 0 0 search ∷ record_put [] 0 3 search ∷ []
of-call (record_at bytes edition at) = record_at [] 0 0 ∷ []
of-call (trace_seal bytes used edition) = trace_seal [] 0 0 ∷ trace_seal [] 0 3 ∷ []
of-call (replay bytes offsets) = replay [] [] ∷ replay astray [] ∷ []
of-call (rescue input output edition) = rescue [] [] 0 ∷ rescue [] [] 3 ∷ []
of-call (thin bytes output) = thin [] [] ∷ thin empty [] ∷ []
of-call (thin_in_place bytes) = thin_in_place [] ∷ []
of-call (sheet_add h file) = sheet_add bare_rows [] ∷ sheet_add (zero-rows 0 0 zero_largest) [] ∷ []
of-call (sheet_join h second) =
    sheet_join bare_rows bare_rows ∷ sheet_join (zero-rows 0 0 zero_largest) (zero-rows 1 1 no_file)
    ∷ sheet_join (zero-rows 0 0 zero_largest) (zero-rows 1 1 zero_largest) ∷ []
of-call (sheet_text bytes h) =
    sheet_text [] bare_rows ∷ sheet_text [] (zero-rows 1001 1001 zero_largest) ∷ sheet_text [] (zero-rows 0 0 zero_largest) ∷ []

three-zeros : AllBelow (256 ^ 8) (replicate 3 0)
unfolding AllBelow
three-zeros = let p : 0 < 256 ^ 8 = omega arith in (p, (p, (p, tt)))

astray_makes : Makes 3 (no_rule ∷ [])
unfolding known dims_ok step_ok shape_ok exponents settings_in rules_in AllLaid AllBelow
astray_makes = record {
  edition = refl;
  few = omega arith;
  laid = (
    record {
      shape = refl;
      ruled = λ e. absurd (omega (arith, e));
      exps = refl;
      settings = refl;
      dz = refl;
      ds = refl;
      z = refl;
      s = refl;
      dualstep = refl;
      primalstep = refl;
    },
    record {
      rule = omega arith;
      exps = tt;
      start = omega arith;
      settings = tt;
      dz = three-zeros;
      ds = three-zeros;
      z = three-zeros;
      s = three-zeros;
      dualcount = omega arith;
      primalcount = omega arith;
    },
    tt,
  );
}

-- a replay whose list has no room for the one record that differs
no_room_lem : number_of (replay astray []) ≡ 8
unfolding made number_in trace_row settle replays.replay_of replays.differing replays.noted
no_room_lem =
    rw (
      traces_inverse.good 3 (no_rule ∷ []) astray_makes,
      traces_inverse.edition 3 (no_rule ∷ []) astray_makes,
      traces_inverse.read 3 (no_rule ∷ []) astray_makes,
      no_rule_differs 3 no_rule refl,
    )

-- rows without a flag for the file that is added
no_flag : number_of (sheet_add (zero-rows 0 0 zero_largest) []) ≡ 8
unfolding made number_in trace_row settle rows.rows_ok rows.named_in rows.names_ok rows.no_room rows.sheet_row rows.join_code rows.join_of rows.add_of
    rows.held rows.totals_of sheet_of entries_from entries_of taken good_trace trailer_ok largest_of
no_flag = rw (length-counts [])

calls_give : (a : Call) → gives (row_of a) (by_arguments (numbers_of a)) (of-call a) ≡ true
unfolding gives row_of by_arguments numbers_of of-call made number_in first_row trace_row settle numel_of all_of three_ok cone_ok_within cone_ok total_of
    all_cones_ok plan_ok lt le eq of_bits to_bits plan_faults sides_faults plans.common_step_of plans.plan_step_of writing.create_of writing.longer
    writing.append_rows writing.append_of open_of opened_of value.recorded_in value.refused_record recording.put_rows recording.record_put_of
    recording.record_at_of recording.whole_front recording.seal_rows recording.trace_seal_of replays.replay_of rescues.ends_known
    rescues.edition_for rescues.rescue_of thins.thin_of thins.thin_in_place_of firsts_behind whole_in laid_at known records_bytes offsets_from
    trailer_of trace_of trailer_ok walks good_trace records_in records_of record_of entry_of can_lay runs_for rules_in exponents settings_in rows_in
    bytes_of dims_ok step_ok shape_ok runs_size runs_bytes row_bytes spell spelled word_at rows.rows_ok rows.named_in rows.names_ok rows.no_room
    rows.sheet_row rows.join_code rows.join_of rows.add_of text.print_of
calls_give (entry e c) = entries_give e
calls_give (common_step cs primal dq q point s) = refl
calls_give (plan_step cs dz ds z s dual_point primal_point how) = refl
calls_give (trace_create bytes) = refl
calls_give (trace_append bytes used a) = refl
calls_give (trace_open bytes) = refl
calls_give (trace_record bytes i) = refl
calls_give (record_put bytes at edition a) = refl
calls_give (record_at bytes edition at) = refl
calls_give (trace_seal bytes used edition) = refl
calls_give (replay bytes offsets) = ap (λ (k : ℕ). eqb k 8 && true) no_room_lem
calls_give (rescue input output edition) = refl
calls_give (thin bytes output) = refl
calls_give (thin_in_place bytes) = refl
calls_give (sheet_add h file) = ap (λ (k : ℕ). eqb k 8 && true) no_flag
calls_give (sheet_join h second) = refl
calls_give (sheet_text bytes h) = refl

pub all_given : AllGiven
all_given a = pick (row_of a) (by_arguments (numbers_of a)) (of-call a) (calls_give a)
