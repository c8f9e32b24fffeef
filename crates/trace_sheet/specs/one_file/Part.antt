-- What one file adds to a sheet, by value. 02, Order 14. Definitions only.
use Rattle.std.specs.Prelude.{ℕ, true, false, cond, List, length, Option, Some, None}
use Rattle.trace_sheet.specs.counts.Counts.{Entry, none, largest_of}
use Rattle.trace_sheet.specs.counts.Sheet.{taken, entries_of}
use Rattle.trace_sheet.specs.declared.one_file.Tally.{Tally}
use Rattle.trace_sheet.specs.declared.one_file.Part.{Part}

unfoldable pub tally_of : List Entry → Tally
tally_of es = record { records = length es; largest = largest_of es }

-- the file's own number is 1
unfoldable pub counted_of : List ℕ → Part
counted_of bs = record {
  records = length (entries_of false 1 bs);
  dual = largest_of (entries_of false 1 bs);
  primal = largest_of (entries_of true 1 bs);
}

-- .. of a file that is taken
unfoldable pub part_of : List ℕ → Option Part
part_of bs = cond (taken bs) (Some (counted_of bs)) None

-- what one that is skipped adds
abbrev pub nothing : Part
nothing = record { records = 0; dual = none; primal = none }
