-- A sheet in lent rows, and what adding to it leaves. 02, Order 14. Definitions only.
use Rattle.std.specs.Prelude.{ℕ, ◌+◌, Bool, false, cond, not, ◌&&◌, ◌||◌, List, [], ◌∷◌, eqb, leb, ltb, length, take}
use Rattle.std.proofs.lemmas.List.Edits.{sets}
use Rattle.cone.specs.table.Table.{trace_row, settle}
use Rattle.trace_layout.specs.Traces.{most_files}
use Rattle.trace_sheet.specs.declared.counts.Largest.{Largest}
use Rattle.trace_sheet.specs.counts.Counts.{places, none}
use Rattle.trace_sheet.specs.counts.Sheet.{Sheet, sheet_of, sheets_added}
use Rattle.trace_sheet.specs.declared.rows.Totals.{Totals}

-- totals by value and the three rows. Of the flags as many are used as there are files
pub record Held : Type 0 where
  pub totals : Totals
  pub dual : List ℕ
  pub primal : List ℕ
  pub skipped : List ℕ

-- the sheet that they hold
unfoldable pub sheet_in : Held → Sheet
sheet_in h = record {
  records = h.totals.records;
  skipped = take h.totals.files h.skipped;
  dual = record { counts = h.dual; largest = h.totals.dual };
  primal = record { counts = h.primal; largest = h.totals.primal };
}

unfoldable pub totals_of : Sheet → Totals
totals_of s = record {
  code = 0;
  files = length s.skipped;
  records = s.records;
  dual = s.dual.largest;
  primal = s.primal.largest;
}

-- rows that hold a sheet and nothing else
unfoldable pub held : Sheet → Held
held s = record { totals = totals_of s; dual = s.dual.counts; primal = s.primal.counts; skipped = s.skipped }

-- lent rows, with a sheet in them: behind its flags theirs are as they were
unfoldable pub holding : Held → Sheet → Held
holding old s = record {
  totals = totals_of s;
  dual = s.dual.counts;
  primal = s.primal.counts;
  skipped = sets old.skipped 0 s.skipped;
}

-- ---- what refuses a sum

-- 2: "a lent slice has another length than needed"
unfoldable pub rows_ok : ℕ → ℕ → ℕ → ℕ → Bool
rows_ok dual primal skipped files = eqb dual places && eqb primal places && leb files skipped

abbrev pub rows_in : Held → Bool
rows_in h = rows_ok (length h.dual) (length h.primal) (length h.skipped) h.totals.files

-- a largest stands in one of so many files, numbered from 1; one of size 0 is none, and what else it says is not read
unfoldable pub named_in : ℕ → Largest → Bool
named_in files t = eqb t.size 0 || (leb 1 t.file && leb t.file files)

-- 9 where a largest of a sheet stands in no file of it
unfoldable pub names_ok : ℕ → Largest → Largest → Bool
names_ok files dual primal = named_in files dual && named_in files primal

-- 8: no room, that is: a count above 64 bits ..
unfoldable pub spills : List ℕ → List ℕ → Bool
spills [] ys = false
spills (x ∷ xs) [] = false
spills (x ∷ xs) (y ∷ ys) = ltb 0xffff_ffff_ffff_ffff (x + y) || spills xs ys

-- .. or more files than have flags. "At most 1,000 files"
unfoldable pub no_room : ℕ → ℕ → ℕ → ℕ → ℕ → Bool
no_room files more flags records others =
    ltb most_files (files + more) || ltb flags (files + more) || ltb 0xffff_ffff_ffff_ffff (records + others)

unfoldable pub sheet_row : Bool → Bool → Bool → ℕ
sheet_row length broken full = cond length 2 (trace_row broken full)

unfoldable pub join_code : Held → Held → ℕ
join_code a b =
    sheet_row (not (rows_in a && rows_in b)) (not (names_ok b.totals.files b.totals.dual b.totals.primal))
    (no_room a.totals.files b.totals.files (length a.skipped) a.totals.records b.totals.records
    || spills a.dual b.dual
    || spills a.primal b.primal)

-- 01: "A refusal returns zeros for all numbers", "changes no lent buffer"
abbrev pub refused_totals : ℕ → Totals
refused_totals k = record { code = k; files = 0; records = 0; dual = none; primal = none }

abbrev pub refuse : Held → ℕ → Held
refuse old k = record { totals = refused_totals k; dual = old.dual; primal = old.primal; skipped = old.skipped }

-- ---- "Traces joined in two groups and their sheets added"

unfoldable pub join_of : Held → Held → Held
join_of a b = settle (join_code a b) (holding a (sheets_added (sheet_in a) (sheet_in b))) (refuse a)

-- one file more: its own sheet is added
unfoldable pub add_of : Held → List ℕ → Held
add_of a bs = join_of a (held (sheet_of (bs ∷ [])))
