-- What the program leaves of the files that it is given. What stands in them is no argument of a function: a contract can say that there are
-- files of which this is the sheet, and not that they are those that the system hands over. 02, Order 14. Definitions only.
use Rattle.std.specs.Prelude.{ℕ, ◌≤◌, ◌≡◌, Option, ◌⊎◌, List, length, IfSome}
use Rattle.std.proofs.lemmas.List.Edits.{sets}
use Rattle.trace_sheet.specs.counts.Laws.{AllBytes}
use Rattle.trace_sheet.specs.counts.Sheet.{sheet_of}
use Rattle.trace_sheet.specs.declared.rows.Totals.{Totals}
use Rattle.trace_sheet.specs.rows.Rows.{Held}
use Rattle.trace_sheet.specs.rows.Sums.{add_all}
use Rattle.trace_sheet.specs.text.Printed.{sheet_text}

-- so many files, each of bytes, were added one by one
pub record Added (n : ℕ) (before after : Held) : Type 0 where
  pub files : List (List ℕ)
  pub bytes : AllBytes files
  pub all : length files ≡ n
  pub held : after ≡ add_all before files

-- .. as many as asked for, where every one could be read: what is counted is their totals
pub record FilesCounted (asked : ℕ) (counted : Option Totals) (before : Held) (dual primal skipped : List ℕ) : Type 0 where
  pub n : ℕ
  pub few : n ≤ asked
  pub totals : Totals
  pub all : IfSome counted (λ t. (t ≡ totals) × (n ≡ asked))
  pub added : Added n before (record { totals = totals; dual = dual; primal = primal; skipped = skipped })

-- the text of the sheet of as many files as asked for: n bytes, from the first on
pub record SheetPrinted (asked n : ℕ) (old new : List ℕ) : Type 0 where
  pub files : List (List ℕ)
  pub bytes : AllBytes files
  pub all : length files ≡ asked
  pub end : n ≡ length (sheet_text (sheet_of files))
  pub text : new ≡ sets old 0 (sheet_text (sheet_of files))

-- .. or nothing, where one could not be read
abbrev pub FilesPrinted : ℕ → ℕ → List ℕ → List ℕ → Type 0
FilesPrinted asked n old new = ((n ≡ 0) × (new ≡ old)) ⊎ SheetPrinted asked n old new
