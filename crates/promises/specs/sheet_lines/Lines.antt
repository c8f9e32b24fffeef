-- 02, Order 14: "Lines read, for the side `dual` and then `primal`: `dual records 3`, `dual zero 1`, `dual exp 0 1`, `dual exp -3 1`, `dual
-- subnormal 0`, `dual most 42 file 1 at 0`". The document's six lines on both sides, and the line of a skipped file, byte for byte. The
-- definitions, and the statement; proofs/sheet_lines/Lines has the proof.
use Rattle.std.specs.Prelude.{ℕ, ◌≡◌, true, false, List, ◌++◌, [], ◌∷◌, length}
use Rattle.octets.specs.lines.Lines.{ascii}
use Rattle.trace_sheet.specs.counts.Counts.{Entry}
use Rattle.trace_sheet.specs.counts.Sheet.{Sheet, side_of}
use Rattle.trace_sheet.specs.lines.Text.{side_text}
use Rattle.trace_sheet.specs.text.Printed.{sheet_text}

-- a search of the first file: the bits of its step, its tests, and where its record stands
abbrev pub search : ℕ → ℕ → ℕ → Entry
search step tests at = record { step = step; tests = tests; file = 1; at = at }

-- the steps 0, 1 and 1/8 in three records; the first one's search made 42 tests
abbrev pub three : List Entry
three = search 0 42 0 ∷ search 0x3ff0_0000_0000_0000 1 204 ∷ search 0x3fc0_0000_0000_0000 2 408 ∷ []

abbrev pub six_lines : List ℕ
six_lines = ascii "dual records 3\ndual zero 1\ndual exp 0 1\ndual exp -3 1\ndual subnormal 0\ndual most 42 file 1 at 0\n"

abbrev pub primal_lines : List ℕ
primal_lines =
    ascii "primal records 3\nprimal zero 1\nprimal exp 0 1\nprimal exp -3 1\nprimal subnormal 0\nprimal most 42 file 1 at 0\n"

-- "a broken one .. is named first in a line `skipped file N`": the second of two files
abbrev pub second_skipped : List ℕ
second_skipped = ascii "skipped file 2\n"

-- the sheet of two files: the three records of the first, with the same searches on both sides; the second is skipped
abbrev pub two_files : Sheet
two_files = record { records = length three; skipped = 0 ∷ 1 ∷ []; dual = side_of three; primal = side_of three }

pub record DocumentsLines : Type 0 where
  pub dual : side_text false (length three) (side_of three) ≡ six_lines
  pub primal : side_text true (length three) (side_of three) ≡ primal_lines
  -- the whole text, in the document's order
  pub whole : sheet_text two_files ≡ (second_skipped ++ six_lines) ++ primal_lines
