-- Files added one by one, and two groups of them joined, give the sheet of all of them. Statement; proofs/rows/Sums has the proof.
use Rattle.std.specs.Prelude.{ℕ, ◌≤◌, ◌≡◌, List, [], ◌∷◌, ◌++◌, length}
use Rattle.trace_layout.specs.Traces.{most_files}
use Rattle.trace_sheet.specs.counts.Counts.{Fresh}
use Rattle.trace_sheet.specs.counts.Laws.{AllBytes}
use Rattle.trace_sheet.specs.counts.Sheet.{sheet_of}
use Rattle.trace_sheet.specs.rows.Rows.{Held, sheet_in, totals_of, join_of, add_of}

-- rows of zeros and totals of no files. What stands in the flags is not read
pub record Begun (h : Held) : Type 0 where
  pub totals : h.totals ≡ totals_of (sheet_of [])
  pub dual : Fresh h.dual
  pub primal : Fresh h.primal

-- bytes, "At most 1,000 files", and flags enough, of which there are n
pub record Countable (n : ℕ) (files : List (List ℕ)) : Type 0 where
  pub bytes : AllBytes files
  pub few : length files ≤ most_files
  pub flags : length files ≤ n

-- file after file
unfoldable pub add_all : Held → List (List ℕ) → Held
add_all h [] = h
add_all h (bs ∷ files) = add_all (add_of h bs) files

-- the last call was done, and its rows hold the sheet of these files
pub record IsSheet (h : Held) (files : List (List ℕ)) : Type 0 where
  pub done : h.totals.code ≡ 0
  pub all : sheet_in h ≡ sheet_of files

pub record OfSums : Type 0 where
  -- files added one by one: none is refused, no count wraps, and the rows hold the sheet of all
  pub one_by_one : (h : Held) (files : List (List ℕ)) → Begun h → Countable (length h.skipped) files → IsSheet (add_all h files) files
  -- "Traces joined in two groups and their sheets added, .. give the sheet of all"
  pub two_groups : (a b : Held) (xs ys : List (List ℕ)) → Begun a → Begun b → Countable (length a.skipped) (xs ++ ys)
      → length ys ≤ length b.skipped → IsSheet (join_of (add_all a xs) (add_all b ys)) (xs ++ ys)
