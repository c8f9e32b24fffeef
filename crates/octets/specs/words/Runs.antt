-- A layout: runs of numbers, each run of one width, end to end. Definitions only.
use Rattle.std.specs.Prelude.{ℕ, ◌+◌, ◌*◌, ◌^◌, ◌≡◌, List, [], ◌∷◌, ◌++◌, length, drop}
use Rattle.octets.specs.words.Words.{row_bytes, row_of, AllBelow}

-- count numbers of width bytes each
pub record Run : Type 0 where
  pub width : ℕ
  pub count : ℕ

unfoldable pub runs_size : List Run → ℕ
runs_size [] = 0
runs_size (run ∷ runs) = run.width * run.count + runs_size runs

-- the numbers of each run, written end to end
unfoldable pub runs_bytes : List Run → List (List ℕ) → List ℕ
runs_bytes [] rows = []
runs_bytes (run ∷ runs) [] = []
runs_bytes (run ∷ runs) (row ∷ rows) = row_bytes run.width row ++ runs_bytes runs rows

-- the numbers of each run, read off the front of a list of bytes
unfoldable pub runs_of : List Run → List ℕ → List (List ℕ)
runs_of [] bs = []
runs_of (run ∷ runs) bs = row_of run.width run.count bs ∷ runs_of runs (drop (run.width * run.count) bs)

-- the rows have the counts and the widths that the runs ask for
unfoldable pub Suits : List Run → List (List ℕ) → Type 0
Suits [] [] = Unit
Suits [] (row ∷ rows) = ⊥
Suits (run ∷ runs) [] = ⊥
Suits (run ∷ runs) (row ∷ rows) = (length row ≡ run.count) × AllBelow (256 ^ run.width) row × Suits runs rows
