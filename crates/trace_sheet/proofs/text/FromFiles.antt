-- Rows that hold the sheet of files are let through and print its text, which has room: no line is longer than 64 bytes but the last of a
-- side. Assumes nothing.
use mathlib.Core.Path.{◌≡◌}
use mathlib.Core.Bool.{true, false}
use mathlib.Core.List.{List, ◌++◌}
use Prim.Native.Nat.{ℕ, ◌≤◌}
use native.Mathlib.Omega.{arith}
use lib.ListN.{length, length-append, length-map}
use borrow.Author.Tests.{le-ltb}
use Rattle.cone.specs.table.Table.{trace_row, settle}
use Rattle.trace_layout.specs.Traces.{most_files}
use Rattle.trace_sheet.specs.counts.Sheet.{Sheet, flag_of, sheet_of}
use Rattle.trace_sheet.specs.rows.Rows.{Held, sheet_row}
use Rattle.trace_sheet.proofs.rows.Sums.{Holds, holds_files, holds_rows, holds_sheet, all_hold, groups_hold}
use Rattle.trace_sheet.specs.lines.Text.{skipped_lines, side_text}
use Rattle.trace_sheet.proofs.lines.Lines.{skipped_most, side_most}
use Rattle.trace_sheet.specs.text.Printed.{sheet_text, text_room, print_of}
use Rattle.trace_sheet.specs.text.FromFiles.{printed, OfFiles}

holds_printed : (old : List ℕ) (n : ℕ) (h : Held) (files : List (List ℕ)) → text_room ≤ length old → length files ≤ most_files
    → Holds n h files
    → print_of old h ≡ printed old files
unfolding print_of sheet_row trace_row settle
holds_printed old n h files room few holds =
    let few_files : h.totals.files ≤ most_files = omega (arith, holds_files n h files holds) in
    rw (
      holds_rows n h files holds,
      le-ltb most_files h.totals.files few_files,
      le-ltb (length old) text_room room,
      holds_sheet n h files holds,
    )

text_most : (s : Sheet) → length s.skipped ≤ most_files → length (sheet_text s) ≤ text_room
unfolding sheet_text
text_most s few =
    let flags = skipped_lines 1 s.skipped in
    let dual = side_text false s.records s.dual in
    let primal = side_text true s.records s.primal in
    omega (
      arith,
      length-append (flags ++ dual) primal,
      length-append flags dual,
      skipped_most 1 s.skipped,
      side_most false s.records s.dual,
      side_most true s.records s.primal,
    )

few_flags : (files : List (List ℕ)) → length files ≤ most_files → length (sheet_of files).skipped ≤ most_files
unfolding sheet_of
few_flags files few = omega (arith, length-map files flag_of)

pub files_printed : OfFiles
files_printed = record {
  one_by_one = λ old h files room begun fit. holds_printed old (length h.skipped) _ files room fit.few (all_hold h files begun fit);
  two_groups = λ old a b xs ys room a-begun b-begun fit flags.
      holds_printed old (length a.skipped) _ (xs ++ ys) room fit.few (groups_hold a b xs ys a-begun b-begun fit flags);
  room = λ files few. text_most (sheet_of files) (few_flags files few);
}
