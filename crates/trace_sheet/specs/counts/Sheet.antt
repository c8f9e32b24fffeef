-- The monthly sheet as a value, of the bytes of a row of files. 02, Order 14. Definitions only.
use Rattle.std.specs.Prelude.{ℕ, ◌+◌, Bool, true, false, cond, ◌&&◌, List, [], ◌∷◌, ◌++◌, map, leb, length}
use Rattle.trace_layout.specs.Records.{Record, size_in}
use Rattle.trace_layout.specs.Traces.{most_bytes, edition_at, good_trace, records_of}
use Rattle.trace_sheet.specs.declared.counts.Largest.{Largest}
use Rattle.trace_sheet.specs.counts.Counts.{Entry, counts_of, summed, larger_of, largest_of, moved_up}

-- ---- which files are counted

-- "a broken one, or one above 65,536 bytes, is named first .. and left uncounted"
unfoldable pub taken : List ℕ → Bool
taken bs = leb (length bs) most_bytes && good_trace bs

-- 1 for a file that is skipped
unfoldable pub flag_of : List ℕ → ℕ
flag_of bs = cond (taken bs) 0 1

-- ---- "for the side `dual` and then `primal`": the searches of one side, in file order

unfoldable pub entry_of : Bool → ℕ → ℕ → Record → Entry
entry_of primal file at r = record {
  step = cond primal r.primalstep r.dualstep;
  tests = cond primal r.primalcount r.dualcount;
  file = file;
  at = at;
}

-- of records that lie end to end, the first of them at the offset `at`
unfoldable pub entries_in : Bool → ℕ → ℕ → ℕ → List Record → List Entry
entries_in primal file e at [] = []
entries_in primal file e at (r ∷ rs) = entry_of primal file at r ∷ entries_in primal file e (at + size_in e r) rs

unfoldable pub entries_of : Bool → ℕ → List ℕ → List Entry
entries_of primal file bs = cond (taken bs) (entries_in primal file (edition_at bs) 0 (records_of bs)) []

-- of files, the first of them with the number `file`
unfoldable pub entries_from : Bool → ℕ → List (List ℕ) → List Entry
entries_from primal file [] = []
entries_from primal file (bs ∷ files) = entries_of primal file bs ++ entries_from primal (file + 1) files

-- ---- the sheet

pub record Side : Type 0 where
  pub counts : List ℕ
  pub largest : Largest

-- skipped has a place for each file, 1 where it was skipped and 0 where it was counted: so its length is the file count
pub record Sheet : Type 0 where
  pub records : ℕ
  pub skipped : List ℕ
  pub dual : Side
  pub primal : Side

abbrev pub side_of : List Entry → Side
side_of es = record { counts = counts_of es; largest = largest_of es }

-- "At most 1,000 files, numbered from 1"
unfoldable pub sheet_of : List (List ℕ) → Sheet
sheet_of files = record {
  records = length (entries_from false 1 files);
  skipped = map flag_of files;
  dual = side_of (entries_from false 1 files);
  primal = side_of (entries_from true 1 files);
}

-- ---- "Traces joined in two groups and their sheets added"

-- "counts summed, the second group's file numbers moved up by the first's file count and the earlier largest kept on a tie"
abbrev pub sides_added : ℕ → Side → Side → Side
sides_added files a b = record { counts = summed a.counts b.counts; largest = larger_of a.largest (moved_up files b.largest) }

unfoldable pub sheets_added : Sheet → Sheet → Sheet
sheets_added a b = record {
  records = a.records + b.records;
  skipped = a.skipped ++ b.skipped;
  dual = sides_added (length a.skipped) a.dual b.dual;
  primal = sides_added (length a.skipped) a.primal b.primal;
}
