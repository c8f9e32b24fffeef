-- The laws of the sheet. Statements; proofs/counts/Groups and proofs/counts/AddsUp have the proofs.
use Rattle.std.specs.Prelude.{ℕ, ◌*◌, ◌≤◌, ◌≡◌, List, [], ◌∷◌, ◌++◌, length, get_or}
use Rattle.octets.specs.words.Words.{AllBelow}
use Rattle.trace_layout.specs.Traces.{most_records}
use Rattle.trace_sheet.specs.counts.Counts.{total}
use Rattle.trace_sheet.specs.counts.Sheet.{sheet_of, sheets_added}

-- every file holds bytes
unfoldable pub AllBytes : List (List ℕ) → Type 0
AllBytes [] = Unit
AllBytes (bs ∷ files) = AllBelow 256 bs × AllBytes files

pub record OfSheets : Type 0 where
  -- "Traces joined in two groups and their sheets added .. give the sheet of all"
  pub groups : (xs ys : List (List ℕ)) → sheet_of (xs ++ ys) ≡ sheets_added (sheet_of xs) (sheet_of ys)
  -- "The exponent, subnormal and zero lines add up to the records": each is a place of its side's row
  pub dual_adds_up : (files : List (List ℕ)) → AllBytes files → total (sheet_of files).dual.counts ≡ (sheet_of files).records
  pub primal_adds_up : (files : List (List ℕ)) → AllBytes files → total (sheet_of files).primal.counts ≡ (sheet_of files).records
  -- counts never wrap: those of 1,000 files are at most 4,096,000
  pub few : (files : List (List ℕ)) → AllBytes files → (sheet_of files).records ≤ most_records * length files
  pub dual_few : (files : List (List ℕ)) (k : ℕ) → get_or (sheet_of files).dual.counts k 0 ≤ (sheet_of files).records
  pub primal_few : (files : List (List ℕ)) (k : ℕ) → get_or (sheet_of files).primal.counts k 0 ≤ (sheet_of files).records
