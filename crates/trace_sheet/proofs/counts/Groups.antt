-- 02, Order 14: "Traces joined in two groups and their sheets added, .. give the sheet of all". Assumes nothing.
use mathlib.Core.Path.{◌≡◌, refl, sym, ap, ◌∙◌}
use mathlib.Core.Bool.{Bool, true, false, cond}
use mathlib.Core.List.{List, [], ◌∷◌, ◌++◌, map, append_assoc}
use Prim.Native.Nat.{ℕ, suc, ◌+◌, ◌<◌}
use native.Mathlib.Omega.{arith}
use lib.Dec.{eqb}
use lib.ListN.{length, get_or, length-append, length-map}
use lib.Seq.{ext_get_or}
use Rattle.trace_layout.specs.Records.{Record, size_in}
use Rattle.trace_layout.specs.Traces.{edition_at, records_of}
use Rattle.trace_sheet.specs.counts.Counts.{Entry, place_of, places, how_many, counts_of, summed, larger_of, largest_of, moved_up}
use Rattle.trace_sheet.specs.counts.Sheet.{
  taken,
  flag_of,
  entry_of,
  entries_in,
  entries_of,
  entries_from,
  Side,
  Sheet,
  side_of,
  sides_added,
  sheet_of,
  sheets_added,
}
use Rattle.trace_sheet.proofs.counts.Rows.{length-counts, get_or-counts, length-summed, get_or-summed}
use Rattle.trace_sheet.proofs.counts.Tops.{up_entry, largest-append, largest_up}

-- ---- the searches of files whose numbers are n higher are the same, moved up

map-append : (f : Entry → Entry) (xs ys : List Entry) → map f (xs ++ ys) ≡ map f xs ++ map f ys
map-append f [] ys = refl
map-append f (x ∷ xs) ys = ap (λ (l : List Entry). f x ∷ l) (map-append f xs ys)

in_up : (p : Bool) (file n e at : ℕ) (rs : List Record) → entries_in p (file + n) e at rs ≡ map (up_entry n) (entries_in p file e at rs)
unfolding entries_in entry_of
in_up p file n e at [] = refl
in_up p file n e at (r ∷ rs) = ap (λ (l : List Entry). entry_of p (file + n) at r ∷ l) (in_up p file n e (at + size_in e r) rs)

of_up_by : (p : Bool) (file n : ℕ) (bs : List ℕ) (b : Bool) → taken bs ≡ b
    → entries_of p (file + n) bs ≡ map (up_entry n) (entries_of p file bs)
unfolding entries_of
of_up_by p file n bs true t = rw t (in_up p file n (edition_at bs) 0 (records_of bs))
of_up_by p file n bs false t = rw t

from_up : (p : Bool) (file n : ℕ) (files : List (List ℕ)) → entries_from p (file + n) files ≡ map (up_entry n) (entries_from p file files)
unfolding entries_from
from_up p file n [] = refl
from_up p file n (bs ∷ files) =
    let next : file + n + 1 ≡ file + 1 + n = omega arith in
    rw next (ap (λ (l : List Entry). l ++ entries_from p (file + 1 + n) files) (of_up_by p file n bs (taken bs) refl)
    ∙ ap (λ (l : List Entry). map (up_entry n) (entries_of p file bs) ++ l) (from_up p (file + 1) n files)
    ∙ sym (map-append (up_entry n) (entries_of p file bs) (entries_from p (file + 1) files)))

from-append : (p : Bool) (file : ℕ) (xs ys : List (List ℕ)) → entries_from p file (xs ++ ys)
    ≡ entries_from p file xs ++ entries_from p (file + length xs) ys
unfolding entries_from
from-append p file [] ys = let z : file ≡ file + 0 = omega arith in ap (λ (n : ℕ). entries_from p n ys) z
from-append p file (bs ∷ xs) ys =
    let z : file + 1 + length xs ≡ file + suc (length xs) = omega arith in
    ap (λ (l : List Entry). entries_of p file bs ++ l) (from-append p (file + 1) xs ys)
    ∙ ap (λ (n : ℕ). entries_of p file bs ++ (entries_from p (file + 1) xs ++ entries_from p n ys)) z
    ∙ sym (append_assoc (entries_of p file bs) (entries_from p (file + 1) xs) (entries_from p (file + suc (length xs)) ys))

module _ (p : Bool) (xs ys : List (List ℕ)) where
  abbrev first : List Entry
  first = entries_from p 1 xs

  abbrev second : List Entry
  second = entries_from p 1 ys

  both : entries_from p 1 (xs ++ ys) ≡ first ++ map (up_entry (length xs)) second
  both = from-append p 1 xs ys ∙ ap (λ (l : List Entry). first ++ l) (from_up p 1 (length xs) ys)

-- ---- "counts summed"

many_append : (k : ℕ) (xs ys : List Entry) → how_many k (xs ++ ys) ≡ how_many k xs + how_many k ys
unfolding how_many
many_append k [] ys = omega arith
many_append k (x ∷ xs) ys = ap (λ (n : ℕ). cond (eqb (place_of x.step) k) 1 0 + n) (many_append k xs ys) ∙ omega arith

many_up : (k n : ℕ) (es : List Entry) → how_many k (map (up_entry n) es) ≡ how_many k es
unfolding how_many
many_up k n [] = refl
many_up k n (e ∷ es) = ap (λ (m : ℕ). cond (eqb (place_of e.step) k) 1 0 + m) (many_up k n es)

module _ (n : ℕ) (xs ys : List Entry) where
  abbrev joined : List Entry
  joined = xs ++ map (up_entry n) ys

  counts_alike : length (counts_of xs) ≡ length (counts_of ys)
  counts_alike = length-counts xs ∙ sym (length-counts ys)

  counts-at : (k : ℕ) → k < places → get_or (counts_of joined) k 0 ≡ get_or (summed (counts_of xs) (counts_of ys)) k 0
  counts-at k h =
      get_or-counts joined k h ∙ many_append k xs (map (up_entry n) ys)
      ∙ ap (λ (m : ℕ). how_many k xs + m) (many_up k n ys)
      ∙ sym (get_or-summed (counts_of xs) (counts_of ys) k counts_alike
      ∙ ap (λ (m : ℕ). m + get_or (counts_of ys) k 0) (get_or-counts xs k h)
      ∙ ap (λ (m : ℕ). how_many k xs + m) (get_or-counts ys k h))

  counts-joined : counts_of joined ≡ summed (counts_of xs) (counts_of ys)
  counts-joined =
      ext_get_or 0 (counts_of joined) (summed (counts_of xs) (counts_of ys))
      (length-counts joined ∙ sym (length-summed (counts_of xs) (counts_of ys) counts_alike ∙ length-counts xs))
      (λ k h. counts-at k (omega (arith, length-counts joined)))

  largest-joined : largest_of joined ≡ larger_of (largest_of xs) (moved_up n (largest_of ys))
  largest-joined = largest-append xs (map (up_entry n) ys) ∙ ap (larger_of (largest_of xs)) (largest_up n ys)

  side_joined : side_of joined ≡ sides_added n (side_of xs) (side_of ys)
  side_joined = rw (counts-joined, largest-joined)

-- ---- the sheet of all

flags_append : (xs ys : List (List ℕ)) → map flag_of (xs ++ ys) ≡ map flag_of xs ++ map flag_of ys
flags_append [] ys = refl
flags_append (bs ∷ xs) ys = ap (λ (l : List ℕ). flag_of bs ∷ l) (flags_append xs ys)

module _ (xs ys : List (List ℕ)) where
  sides : (p : Bool) → side_of (entries_from p 1 (xs ++ ys)) ≡ sides_added (length (map flag_of xs))
      (side_of (entries_from p 1 xs)) (side_of (entries_from p 1 ys))
  sides p =
      ap side_of (both p xs ys) ∙ side_joined (length xs) (first p xs ys) (second p xs ys)
      ∙ ap (λ (n : ℕ). sides_added n (side_of (first p xs ys)) (side_of (second p xs ys))) (sym (length-map xs flag_of))

  records : length (entries_from false 1 (xs ++ ys)) ≡ length (entries_from false 1 xs) + length (entries_from false 1 ys)
  records =
      ap length (both false xs ys) ∙ length-append (first false xs ys) (map (up_entry (length xs)) (second false xs ys))
      ∙ ap (λ (n : ℕ). length (first false xs ys) + n) (length-map (second false xs ys) (up_entry (length xs)))

  together : {m n : ℕ} {f g : List ℕ} {d e p q : Side} → m ≡ n → f ≡ g → d ≡ e → p ≡ q
      → ◌≡◌ {A = Sheet} (record { records = m; skipped = f; dual = d; primal = p })
      (record { records = n; skipped = g; dual = e; primal = q })
  together h i j k = rw (h, i, j, k)

  pub groups : sheet_of (xs ++ ys) ≡ sheets_added (sheet_of xs) (sheet_of ys)
  unfolding sheet_of sheets_added
  groups = together records (flags_append xs ys) (sides false) (sides true)
