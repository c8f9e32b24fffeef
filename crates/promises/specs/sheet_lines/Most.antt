-- 02, Order 14: "Also the largest test count, with the file number and offset of the first record that has it". The statement;
-- proofs/sheet_lines/Most has the proof.
use Rattle.std.specs.Prelude.{ℕ, ◌≤◌, ◌<◌, ◌≡◌, Bool, true, false, List, [], ◌∷◌, ◌++◌, map, length}
use Rattle.trace_layout.specs.Traces.{offsets_from, edition_at, records_of}
use Rattle.trace_sheet.specs.declared.counts.Largest.{Largest}
use Rattle.trace_sheet.specs.counts.Counts.{Entry, none, largest_in}
use Rattle.trace_sheet.specs.counts.Sheet.{taken, entries_of, entries_from, sheet_of}

-- every search of the list has fewer tests than n, or at most n
unfoldable pub AllFewer : ℕ → List Entry → Type 0
AllFewer n [] = Unit
AllFewer n (e ∷ es) = (e.tests < n) × AllFewer n es

unfoldable pub AllAtMost : ℕ → List Entry → Type 0
AllAtMost n [] = Unit
AllAtMost n (e ∷ es) = (e.tests ≤ n) × AllAtMost n es

-- t tells of the first search that has the largest count: those before it have fewer tests, those behind it no more
pub record FirstLargest (es : List Entry) (t : Largest) : Type 0 where
  pub before : List Entry
  pub search : Entry
  pub behind : List Entry
  pub all : es ≡ before ++ search ∷ behind
  pub told : t ≡ largest_in search
  pub fewer_before : AllFewer search.tests before
  pub no_more_behind : AllAtMost search.tests behind

-- of the searches of one side of any files, in file order
pub record OfSide (es : List Entry) (t : Largest) : Type 0 where
  pub some : 0 < length es → FirstLargest es t
  -- "the last is left out when there are no records"
  pub no_records : length es ≡ 0 → t ≡ none

pub record MostIsFirst : Type 0 where
  -- the searches of a file stand where its own list says that its records begin: "the list of all record offsets in order" (Order 1)
  pub offsets : (primal : Bool) (file : ℕ) (bs : List ℕ) → taken bs ≡ true
      → map (λ (e : Entry). e.at) (entries_of primal file bs) ≡ offsets_from (edition_at bs) 0 (records_of bs)
  pub dual : (files : List (List ℕ)) → OfSide (entries_from false 1 files) (sheet_of files).dual.largest
  pub primal : (files : List (List ℕ)) → OfSide (entries_from true 1 files) (sheet_of files).primal.largest
