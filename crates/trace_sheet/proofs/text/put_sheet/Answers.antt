-- `put_sheet` meets its contract: the sheet is judged, and only where no row applies its three parts are written, one behind the other.
-- Assumes nothing.
use mathlib.Core.Path.{◌≡◌, sym, ap, ◌∙◌}
use mathlib.Core.Bool.{Bool, false, not}
use mathlib.Core.List.{List}
use Prim.Native.Nat.{ℕ, ◌≤◌}
use native.Mathlib.Omega.{arith}
use lib.Dec.{ltb}
use lib.ListN.{length}
use lib.Seq.{sets}
use Rattle.cone.specs.table.Table.{number_of, code_of}
use Rattle.cone.proofs.table.Settled.{number_above_0, refused, through}
use Rattle.trace_layout.specs.Traces.{most_files}
use Rattle.trace_sheet.specs.rows.Rows.{Held, sheet_in, rows_in, sheet_row}
use Rattle.trace_sheet.specs.lines.Text.{skipped_lines}
use Rattle.trace_sheet.proofs.lines.Writing.{wrote_as}
use Rattle.trace_sheet.proofs.lines.Lines.{skipped_most, side_most}
use Rattle.trace_sheet.specs.text.Printed.{sheet_text, text_room, Told, refuse, print_of}
use Rattle.trace_sheet.proofs.text.Printing.{Fits, fits, flags, flags_length, whole_text}
use Rattle.trace_sheet.proofs.text.put_sheet.Goals as goal

pub returns-in-Err : goal.returns-in-Err
unfolding print_of
returns-in-Err c =
    let old : List ℕ = c.args.text.now in
    let h : Held = let a = c.args in record { totals = a.sheet; dual = a.dual.now; primal = a.primal.now; skipped = a.skipped.now } in
    let row : ℕ = sheet_row (not (rows_in h)) (ltb most_files h.totals.files) (ltb (length old) text_room) in
    let code_is : (number_of c.in-Err.refusal) ≡ row =
    (sym (ap code_of c.in-Err.is) ∙ c.sheet_row.ensures) ∙ ap (λ (b : Bool). sheet_row (not b) (ltb most_files h.totals.files) (ltb
    (length old) text_room)) c.rows_ok-rows.ensures in
    let printed : Told =
    record { answer = record { code = 0; length = length (sheet_text (sheet_in h)) }; text = sets old 0 (sheet_text (sheet_in h)) } in
    rw c.number.ensures (refused row (number_of c.in-Err.refusal) printed (refuse old) code_is (number_above_0 _))

pub put_flags-second-requires : goal.put_flags-second-requires
put_flags-second-requires c =
    let old : List ℕ = c.args.text.now in
    let h : Held = let a = c.args in record { totals = a.sheet; dual = a.dual.now; primal = a.primal.now; skipped = a.skipped.now } in
    let row : ℕ = sheet_row (not (rows_in h)) (ltb most_files h.totals.files) (ltb (length old) text_room) in
    let code_is : (code_of c.sheet_row.result) ≡ row =
    c.sheet_row.ensures ∙ ap (λ (b : Bool). sheet_row (not b) (ltb most_files h.totals.files) (ltb
    (length old) text_room)) c.rows_ok-rows.ensures in
    let fit : Fits old h = fits old h (sym code_is ∙ (ap code_of c.in_default.is)) in
    let front_is : c.front.result.now ≡ flags old h = c.front.ensures in
    let few_flags : length c.front.result.now ≤ most_files = omega (arith, ap length front_is, flags_length old h fit, fit.files) in
    (omega (arith, few_flags, fit.room), few_flags)

pub put_side-third-requires : goal.put_side-third-requires
put_side-third-requires c =
    let old : List ℕ = c.args.text.now in
    let h : Held = let a = c.args in record { totals = a.sheet; dual = a.dual.now; primal = a.primal.now; skipped = a.skipped.now } in
    let row : ℕ = sheet_row (not (rows_in h)) (ltb most_files h.totals.files) (ltb (length old) text_room) in
    let code_is : (code_of c.sheet_row.result) ≡ row =
    c.sheet_row.ensures ∙ ap (λ (b : Bool). sheet_row (not b) (ltb most_files h.totals.files) (ltb
    (length old) text_room)) c.rows_ok-rows.ensures in
    let fit : Fits old h = fits old h (sym code_is ∙ (ap code_of c.in_default.is)) in
    let front_is : c.front.result.now ≡ flags old h = c.front.ensures in
    let few_flags : length c.front.result.now ≤ most_files = omega (arith, ap length front_is, flags_length old h fit, fit.files) in
    let flags_low : c.put_flags-second.result ≤ 64000 =
    omega (arith, c.put_flags-second.ensures.0, skipped_most 1 c.front.result.now, few_flags) in
    (omega (arith, flags_low, fit.room), fit.rows.dual)

pub put_side-end-requires : goal.put_side-end-requires
put_side-end-requires c =
    let old : List ℕ = c.args.text.now in
    let h : Held = let a = c.args in record { totals = a.sheet; dual = a.dual.now; primal = a.primal.now; skipped = a.skipped.now } in
    let row : ℕ = sheet_row (not (rows_in h)) (ltb most_files h.totals.files) (ltb (length old) text_room) in
    let code_is : (code_of c.sheet_row.result) ≡ row =
    c.sheet_row.ensures ∙ ap (λ (b : Bool). sheet_row (not b) (ltb most_files h.totals.files) (ltb
    (length old) text_room)) c.rows_ok-rows.ensures in
    let fit : Fits old h = fits old h (sym code_is ∙ (ap code_of c.in_default.is)) in
    let front_is : c.front.result.now ≡ flags old h = c.front.ensures in
    let few_flags : length c.front.result.now ≤ most_files = omega (arith, ap length front_is, flags_length old h fit, fit.files) in
    let flags_low : c.put_flags-second.result ≤ 64000 =
    omega (arith, c.put_flags-second.ensures.0, skipped_most 1 c.front.result.now, few_flags) in
    let dual_low : c.put_side-third.result ≤ 195232 =
    omega (
      arith,
      flags_low,
      c.put_side-third.ensures.0,
      side_most false h.totals.records
          (record { counts = h.dual; largest = h.totals.dual }),
    ) in
    (omega (arith, dual_low, fit.room), fit.rows.primal)

pub returns : goal.returns
unfolding print_of
returns c =
    let old : List ℕ = c.args.text.now in
    let h : Held = let a = c.args in record { totals = a.sheet; dual = a.dual.now; primal = a.primal.now; skipped = a.skipped.now } in
    let row : ℕ = sheet_row (not (rows_in h)) (ltb most_files h.totals.files) (ltb (length old) text_room) in
    let code_is : (code_of c.sheet_row.result) ≡ row =
    c.sheet_row.ensures ∙ ap (λ (b : Bool). sheet_row (not b) (ltb most_files h.totals.files) (ltb
    (length old) text_room)) c.rows_ok-rows.ensures in
    let printed : Told =
    record { answer = record { code = 0; length = length (sheet_text (sheet_in h)) }; text = sets old 0 (sheet_text (sheet_in h)) } in
    let front_is : c.front.result.now ≡ flags old h = c.front.ensures in
    let skipped =
    wrote_as old c.put_flags-second.new.text 0 c.put_flags-second.result (ap (skipped_lines 1) front_is) c.put_flags-second.ensures in
    through row (code_of c.sheet_row.result) printed (refuse old) code_is (ap code_of c.in_default.is)
    (whole_text old h c.put_flags-second.new.text c.put_side-third.new.text c.put_side-end.new.text c.put_flags-second.result
    c.put_side-third.result
    c.put_side-end.result skipped c.put_side-third.ensures c.put_side-end.ensures)
