-- The larger of the first search and the largest of the others: the first where it is no smaller, and else that one, which the first is
-- before with fewer tests. Assumes nothing.
use Prim.Native.Nat.{ℕ, ◌+◌, ◌≤◌, ◌<◌}
use mathlib.Core.Path.{◌≡◌, refl, ap}
use mathlib.Core.Bool.{Bool, true, false}
use mathlib.Core.List.{List, [], ◌∷◌, ◌++◌, map}
use native.Mathlib.Omega.{arith}
use Rattle.trace_layout.specs.Records.{Record, size_in}
use Rattle.trace_layout.specs.Traces.{offsets_from, edition_at, records_of}
use Rattle.trace_sheet.specs.declared.counts.Largest.{Largest}
use Rattle.trace_sheet.specs.counts.Counts.{Entry, largest_in, largest_of}
use Rattle.trace_sheet.specs.counts.Sheet.{taken, entry_of, entries_in, entries_of, entries_from, sheet_of}
use Rattle.trace_sheet.proofs.counts.Tops.{larger_cases, larger_none}
use Rattle.promises.specs.sheet_lines.Most.{AllFewer, AllAtMost, FirstLargest, OfSide, MostIsFirst}

at_most_append : (n : ℕ) (xs : List Entry) (e : Entry) (ys : List Entry) → AllAtMost n xs → e.tests ≤ n → AllAtMost n ys
    → AllAtMost n (xs ++ e ∷ ys)
unfolding AllAtMost
at_most_append n [] e ys a h b = (h, b)
at_most_append n (x ∷ xs) e ys a h b = (a.0, at_most_append n xs e ys a.1 h b)

at_most_of_fewer : (n m : ℕ) (xs : List Entry) → n ≤ m → AllFewer n xs → AllAtMost m xs
unfolding AllAtMost AllFewer
at_most_of_fewer n m [] h a = tt
at_most_of_fewer n m (x ∷ xs) h a = (omega (arith, a.0), at_most_of_fewer n m xs h a.1)

at_most_more : (n m : ℕ) (xs : List Entry) → n ≤ m → AllAtMost n xs → AllAtMost m xs
unfolding AllAtMost
at_most_more n m [] h a = tt
at_most_more n m (x ∷ xs) h a = (omega (arith, a.0), at_most_more n m xs h a.1)

none_more : (n : ℕ) → AllAtMost n []
unfolding AllAtMost
none_more n = tt

-- the first search of the list is the largest
first-is : (e : Entry) (es : List Entry) → AllAtMost e.tests es → FirstLargest (e ∷ es) (largest_in e)
unfolding AllFewer
first-is e es a = record { before = []; search = e; behind = es; all = refl; told = refl; fewer_before = tt; no_more_behind = a }

later_is : (e : Entry) (es : List Entry) (t : Largest) → FirstLargest es t → e.tests + 1 < t.size → FirstLargest (e ∷ es) t
unfolding AllFewer
later_is e es t f h = record {
  before = e ∷ f.before;
  search = f.search;
  behind = f.behind;
  all = ap (λ (x : List Entry). e ∷ x) f.all;
  told = f.told;
  fewer_before = (omega (arith, ap (λ (x : Largest). x.size) f.told), f.fewer_before);
  no_more_behind = f.no_more_behind;
}

none_behind : (e : Entry) (es : List Entry) (t : Largest) → FirstLargest es t → t.size ≤ e.tests + 1 → AllAtMost e.tests es
none_behind e es t f h =
    let size = ap (λ (x : Largest). x.size) f.told in
    let few : f.search.tests ≤ e.tests = omega (arith, size) in
    rw f.all
    (at_most_append e.tests f.before f.search f.behind
    (at_most_of_fewer f.search.tests e.tests f.before few f.fewer_before) few (at_most_more f.search.tests e.tests f.behind few f.no_more_behind))

first-largest : (e : Entry) (es : List Entry) → FirstLargest (e ∷ es) (largest_of (e ∷ es))
unfolding largest_of
first-largest e [] = rw (larger_none (largest_in e)) (first-is e [] (none_more e.tests))
first-largest e (x ∷ es) =
    let t = largest_of (x ∷ es) in
    larger_cases (largest_in e) t (FirstLargest (e ∷ x ∷ es)) (λ h. later_is e (x ∷ es) t (first-largest x es) h)
    (λ h. first-is e (x ∷ es) (none_behind e (x ∷ es) t (first-largest x es) h))

of_side : (es : List Entry) → OfSide es (largest_of es)
unfolding largest_of
of_side [] = record { some = λ h. absurd (omega arith); no_records = λ h. refl }
of_side (e ∷ es) = record { some = λ h. first-largest e es; no_records = λ h. absurd (omega arith) }

-- ---- where the searches stand

offsets_in : (primal : Bool) (file e at : ℕ) (rs : List Record)
    → map (λ (x : Entry). x.at) (entries_in primal file e at rs) ≡ offsets_from e at rs
unfolding entries_in entry_of offsets_from
offsets_in primal file e at [] = refl
offsets_in primal file e at (r ∷ rs) = ap (λ (l : List ℕ). at ∷ l) (offsets_in primal file e (at + size_in e r) rs)

offsets-of : (primal : Bool) (file : ℕ) (bs : List ℕ) → taken bs ≡ true
    → map (λ (x : Entry). x.at) (entries_of primal file bs) ≡ offsets_from (edition_at bs) 0 (records_of bs)
unfolding entries_of
offsets-of primal file bs h = rw h (offsets_in primal file (edition_at bs) 0 (records_of bs))

pub most_is_first : MostIsFirst
unfolding sheet_of
most_is_first = record {
  offsets = offsets-of;
  dual = λ files. of_side (entries_from false 1 files);
  primal = λ files. of_side (entries_from true 1 files);
}
