-- The sheet's text, and what printing it leaves. 02, Order 14. Definitions only.
use Rattle.std.specs.Prelude.{ℕ, true, false, not, List, ◌++◌, ltb, length}
use Rattle.std.proofs.lemmas.List.Edits.{sets}
use Rattle.cone.specs.table.Table.{settle}
use Rattle.trace_layout.specs.Traces.{most_files}
use Rattle.trace_sheet.specs.counts.Sheet.{Sheet}
use Rattle.trace_sheet.specs.rows.Rows.{Held, sheet_in, rows_in, sheet_row}
use Rattle.trace_sheet.specs.lines.Text.{skipped_lines, side_text}
use Rattle.trace_sheet.specs.declared.text.Printed.{Printed}

-- "is named first in a line `skipped file N`", "for the side `dual` and then `primal`"
unfoldable pub sheet_text : Sheet → List ℕ
sheet_text s = (skipped_lines 1 s.skipped ++ side_text false s.records s.dual) ++ side_text true s.records s.primal

-- room for every sheet of at most 1,000 files
abbrev pub text_room : ℕ
text_room = 326464

pub record Told : Type 0 where
  pub answer : Printed
  pub text : List ℕ

abbrev pub refuse : List ℕ → ℕ → Told
refuse old k = record { answer = record { code = k; length = 0 }; text = old }

-- 2 for a row of another length, 9 for more files than a sheet may have, 8 for want of room. Behind the text the slice is as it was
unfoldable pub print_of : List ℕ → Held → Told
print_of old h =
    let text = sheet_text (sheet_in h) in
    settle (sheet_row (not (rows_in h)) (ltb most_files h.totals.files) (ltb (length old) text_room))
    (record { answer = record { code = 0; length = length text }; text = sets old 0 text })
    (refuse old)
