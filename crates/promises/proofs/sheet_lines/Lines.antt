-- The document's lines, computed. The row of 2,048 counts is read by what each of its places counts, so that no row is made. Assumes
-- nothing.
use Prim.Native.Nat.{ℕ, zero, suc, ◌+◌, ◌<◌}
use mathlib.Core.Path.{◌≡◌, refl}
use mathlib.Core.Bool.{Bool, true, false}
use mathlib.Core.List.{List, [], ◌∷◌, ◌++◌}
use native.Mathlib.Omega.{arith}
use lib.Dec.{leb→le}
use lib.ListN.{length}
use Rattle.octets.specs.decimal.Decimal.{decimal_in}
use Rattle.octets.specs.lines.Lines.{line_of}
use Rattle.trace_sheet.specs.counts.Counts.{Entry, place_of, places, how_many, counts_of, larger_of, largest_of}
use Rattle.trace_sheet.specs.counts.Sheet.{side_of}
use Rattle.trace_sheet.specs.lines.Text.{name_of, exp_part, exp_line, count_line, exp_lines, most_line, side_text, skipped_line, flag_line}
use Rattle.trace_sheet.specs.lines.Text.{skipped_lines}
use Rattle.trace_sheet.specs.text.Printed.{sheet_text}
use Rattle.trace_sheet.proofs.counts.Rows.{get_or-counts}
use Rattle.promises.specs.sheet_lines.Lines.{three, six_lines, primal_lines, second_skipped, DocumentsLines}

-- `exp_lines` of what the places count
unfoldable lines_by : Bool → (ℕ → ℕ) → ℕ → List ℕ
lines_by primal count zero = []
lines_by primal count (suc f) = count_line primal (suc f) (count (suc f + 1)) ++ lines_by primal count f

read_by : (primal : Bool) (es : List Entry) (f : ℕ) → f + 1 < places
    → exp_lines primal (counts_of es) f ≡ lines_by primal (λ k. how_many k es) f
unfolding exp_lines lines_by
read_by primal es zero h = refl
read_by primal es (suc f) h = rw (get_or-counts es (suc f + 1) h, read_by primal es f (omega arith))

dual_lines : side_text false (length three) (side_of three) ≡ six_lines
unfolding side_text most_line largest_of larger_of name_of line_of decimal_in lines_by count_line exp_line exp_part how_many place_of
dual_lines =
    rw (get_or-counts three 0 (leb→le _ _ tt), get_or-counts three 1 (leb→le _ _ tt), read_by false three 2046 (leb→le _ _ tt)) refl

primal_lines_lem : side_text true (length three) (side_of three) ≡ primal_lines
unfolding side_text most_line largest_of larger_of name_of line_of decimal_in lines_by count_line exp_line exp_part how_many place_of
primal_lines_lem =
    rw (get_or-counts three 0 (leb→le _ _ tt), get_or-counts three 1 (leb→le _ _ tt), read_by true three 2046 (leb→le _ _ tt)) refl

second_skipped_lem : skipped_lines 1 (0 ∷ 1 ∷ []) ≡ second_skipped
unfolding skipped_lines flag_line skipped_line line_of decimal_in
second_skipped_lem = refl

pub documents_lines : DocumentsLines
unfolding sheet_text
documents_lines = record { dual = dual_lines; primal = primal_lines_lem; whole = rw (second_skipped_lem, dual_lines, primal_lines_lem) refl }
