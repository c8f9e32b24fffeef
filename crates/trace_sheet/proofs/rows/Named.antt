-- The largest of each side of a sheet stands in one of its files, or is none. Assumes nothing.
use mathlib.Core.Path.{◌≡◌, refl}
use mathlib.Core.Bool.{Bool, true, false}
use mathlib.Core.List.{List, [], ◌∷◌}
use Prim.Native.Nat.{ℕ, ◌+◌, ◌≤◌, ◌<◌}
use native.Mathlib.Omega.{arith}
use lib.Dec.{eqb}
use lib.ListN.{length, length-map}
use borrow.Author.Tests.{eqb-false, le-leb}
use Rattle.trace_layout.specs.Records.{Record, size_in}
use Rattle.trace_layout.specs.Traces.{edition_at, records_of}
use Rattle.trace_sheet.specs.declared.counts.Largest.{Largest}
use Rattle.trace_sheet.specs.counts.Counts.{largest_in, largest_of}
use Rattle.trace_sheet.specs.counts.Sheet.{taken, flag_of, entry_of, entries_in, entries_of, entries_from, sheet_of}
use Rattle.trace_sheet.proofs.counts.Tops.{larger_cases, largest-append}
use Rattle.trace_sheet.specs.rows.Rows.{totals_of, named_in, names_ok}

-- in a file from `first` on and below `end`, where there are records at all
abbrev Stands : ℕ → ℕ → Largest → Type 0
Stands first end t = (t.size ≡ 0 → ⊥) → (first ≤ t.file) × (t.file < end)

in_file : (p : Bool) (file e at : ℕ) (rs : List Record) → Stands file (file + 1) (largest_of (entries_in p file e at rs))
unfolding entries_in entry_of largest_of
in_file p file e at [] = λ some. absurd (some refl)
in_file p file e at (r ∷ rs) =
    larger_cases (largest_in (entry_of p file at r)) (largest_of (entries_in p file e (at + size_in e r) rs)) (Stands file (file + 1))
    (λ h. in_file p file e (at + size_in e r) rs) (λ h some. (omega arith, omega arith))

of_file : (p : Bool) (file : ℕ) (bs : List ℕ) (b : Bool) → taken bs ≡ b → Stands file (file + 1) (largest_of (entries_of p file bs))
unfolding entries_of largest_of
of_file p file bs true t = rw t (in_file p file (edition_at bs) 0 (records_of bs))
of_file p file bs false t = rw t (λ some. absurd (some refl))

from_files : (p : Bool) (file : ℕ) (files : List (List ℕ)) → Stands file (file + length files) (largest_of (entries_from p file files))
unfolding entries_from largest_of
from_files p file [] = λ some. absurd (some refl)
from_files p file (bs ∷ files) =
    rw (largest-append (entries_of p file bs) (entries_from p (file + 1) files))
    (larger_cases (largest_of (entries_of p file bs)) (largest_of (entries_from p (file + 1) files)) (Stands file (file + length
    (bs ∷ files)))
    (λ h some. let s = from_files p (file + 1) files some in (omega arith, omega arith))
    (λ h some. let s = of_file p file bs (taken bs) refl some in (omega arith, omega arith)))

named_by : (files : ℕ) (t : Largest) → Stands 1 (1 + files) t → (b : Bool) → eqb t.size 0 ≡ b → named_in files t ≡ true
unfolding named_in
named_by files t stands true e = rw e
named_by files t stands false e =
    let s = stands (eqb-false t.size 0 e) in
    rw (e, le-leb 1 t.file s.0, le-leb t.file files (omega arith))

named : (p : Bool) (files : List (List ℕ)) → named_in (length files) (largest_of (entries_from p 1 files)) ≡ true
named p files = named_by (length files) (largest_of (entries_from p 1 files)) (from_files p 1 files)
    (eqb (largest_of (entries_from p 1 files)).size 0) refl

pub sheet_named : (files : List (List ℕ))
    → names_ok (totals_of (sheet_of files)).files (totals_of (sheet_of files)).dual (totals_of (sheet_of files)).primal ≡ true
unfolding names_ok totals_of sheet_of
sheet_named files = rw (length-map files flag_of, named false files, named true files)
