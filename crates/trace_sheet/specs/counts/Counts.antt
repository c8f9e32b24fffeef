-- One side of a sheet: how many steps have each binary exponent, and the largest count of tests. 02, Order 14. Definitions only.
use Rattle.std.specs.Prelude.{ℕ, zero, suc, ◌+◌, ◌/◌, ◌≡◌, cond, List, [], ◌∷◌, ◌++◌, eqb, ltb, length, get_or, set}
use Rattle.trace_sheet.specs.declared.counts.Largest.{Largest}

-- one search of a record: the bits of its step, the tests counted, and where the record stands
pub record Entry : Type 0 where
  pub step : ℕ
  pub tests : ℕ
  pub file : ℕ
  pub at : ℕ

-- ---- steps by binary exponent

-- "zero steps, and steps by binary exponent, .. subnormal steps on one line of their own": 0 for zero, 1 for the subnormal ones, whose
-- exponent field is 0, and f + 1 for the field f, which stands for the exponent f - 1023. The field is what lies above the 52 bits of the
-- fraction
unfoldable pub place_of : ℕ → ℕ
place_of step = cond (eqb step 0) 0 (step / 0x10_0000_0000_0000 + 1)

-- a step is finite, so that its field is below 2,047
abbrev pub places : ℕ
places = 2048

-- "exact counts": how many of the steps have the place k
unfoldable pub how_many : ℕ → List Entry → ℕ
how_many k [] = 0
how_many k (e ∷ es) = cond (eqb (place_of e.step) k) 1 0 + how_many k es

-- f 0, f 1, up to f (n - 1)
unfoldable pub table : (ℕ → ℕ) → ℕ → List ℕ
table f zero = []
table f (suc n) = table f n ++ (f n ∷ [])

abbrev pub counts_of : List Entry → List ℕ
counts_of es = table (λ k. how_many k es) places

-- a row in which nothing was counted
pub record Fresh (row : List ℕ) : Type 0 where
  pub all : length row ≡ places
  pub zero : (k : ℕ) → get_or row k 0 ≡ 0

-- one step more in a row
unfoldable pub counted : List ℕ → ℕ → List ℕ
counted row step = set row (place_of step) (get_or row (place_of step) 0 + 1)

-- "counts summed", place by place
unfoldable pub summed : List ℕ → List ℕ → List ℕ
summed [] ys = []
summed (x ∷ xs) [] = []
summed (x ∷ xs) (y ∷ ys) = (x + y) ∷ summed xs ys

-- the sum of a row
unfoldable pub total : List ℕ → ℕ
total [] = 0
total (x ∷ xs) = x + total xs

-- ---- "the largest test count, with the file number and offset of the first record that has it"

-- its size is one more than the count, so that no records are a size of their own
abbrev pub none : Largest
none = record { size = 0; file = 0; at = 0 }

abbrev pub largest_in : Entry → Largest
largest_in e = record { size = e.tests + 1; file = e.file; at = e.at }

-- "the earlier largest kept on a tie"
unfoldable pub larger_of : Largest → Largest → Largest
larger_of s t = cond (ltb s.size t.size) t s

unfoldable pub largest_of : List Entry → Largest
largest_of [] = none
largest_of (e ∷ es) = larger_of (largest_in e) (largest_of es)

-- "the second group's file numbers moved up by the first's file count"
unfoldable pub moved_up : ℕ → Largest → Largest
moved_up files t = cond (eqb t.size 0) none (record { size = t.size; file = t.file + files; at = t.at })
