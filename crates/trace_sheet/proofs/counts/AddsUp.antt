-- 02, Order 14: "The exponent, subnormal and zero lines add up to the records", and counts are at most the records. Assumes nothing.
use mathlib.Core.Path.{◌≡◌, refl, sym, ap, ◌∙◌}
use mathlib.Core.Bool.{Bool, true, false, cond}
use mathlib.Core.List.{List, [], ◌∷◌, ◌++◌}
use Prim.Native.Nat.{ℕ, zero, suc, ◌+◌, ◌*◌, ◌<◌, ◌≤◌}
use native.Mathlib.Omega.{arith}
use lib.Dec.{eqb, leb, ltb}
use lib.ListN.{length, get_or, length-append, get_or-eq_default}
use borrow.Author.Tests.{eqb-true, eqb-false, ne_eqb, ltb-true, ltb-false}
use Rattle.arith.proofs.Branches.{and_right}
use Rattle.octets.specs.words.Words.{AllBelow}
use Rattle.trace_layout.specs.Records.{Record, step_ok, size_in}
use Rattle.trace_layout.specs.Traces.{most_bytes, most_records, AllLaid, edition_at, good_trace, records_of}
use Rattle.trace_layout.proofs.Inverses.{traces_inverse}
use Rattle.trace_sheet.specs.counts.Counts.{Entry, place_of, places, how_many, table, counts_of, total}
use Rattle.trace_sheet.specs.counts.Sheet.{taken, entry_of, entries_in, entries_of, entries_from, sheet_of}
use Rattle.trace_sheet.specs.counts.Laws.{AllBytes, OfSheets}
use Rattle.trace_sheet.proofs.counts.Rows.{length-counts, get_or-counts, placed}
use Rattle.trace_sheet.proofs.counts.Groups.{groups}

-- ---- sums of tables

total-append : (xs : List ℕ) (y : ℕ) → total (xs ++ (y ∷ [])) ≡ total xs + y
unfolding total
total-append [] y = omega arith
total-append (x ∷ xs) y = ap (λ (n : ℕ). x + n) (total-append xs y) ∙ omega arith

abbrev sum : (ℕ → ℕ) → ℕ → ℕ
sum f n = total (table f n)

sum_more : (f : ℕ → ℕ) (n : ℕ) → sum f (suc n) ≡ sum f n + f n
unfolding table
sum_more f n = total-append (table f n) (f n)

sum-none : (f : ℕ → ℕ) → sum f 0 ≡ 0
unfolding table total
sum-none f = refl

-- a step is in one place
abbrev is : ℕ → ℕ → ℕ
is j k = cond (eqb j k) 1 0

none_below : (j n : ℕ) → n ≤ j → sum (is j) n ≡ 0
none_below j zero h = sum-none (is j)
none_below j (suc n) h = sum_more (is j) n ∙ rw (none_below j n (omega arith), ne_eqb j n (λ e. omega arith))

one-by : (j n : ℕ) → j < suc n → (b : Bool) → eqb j n ≡ b → (j < n → sum (is j) n ≡ 1) → sum (is j) (suc n) ≡ 1
one-by j n h true e earlier = sum_more (is j) n ∙ rw (none_below j n (omega (arith, eqb-true j n e)), e)
one-by j n h false e earlier =
    let other : j ≡ n → ⊥ = eqb-false j n e in sum_more (is j) n ∙ rw (earlier (omega arith), e)

one_place : (j n : ℕ) → j < n → sum (is j) n ≡ 1
one_place j zero h = absurd (omega arith)
one_place j (suc n) h = one-by j n h (eqb j n) refl (one_place j n)

sum-add : (f g h : ℕ → ℕ) → ((k : ℕ) → h k ≡ f k + g k) → (n : ℕ) → sum h n ≡ sum f n + sum g n
sum-add f g h e zero = rw (sum-none h, sum-none f, sum-none g)
sum-add f g h e (suc n) =
    omega (arith, sum_more h n, sum_more f n, sum_more g n, sum-add f g h e n, e n)

sum-zero : (h : ℕ → ℕ) → ((k : ℕ) → h k ≡ 0) → (n : ℕ) → sum h n ≡ 0
sum-zero h e zero = sum-none h
sum-zero h e (suc n) = omega (arith, sum_more h n, sum-zero h e n, e n)

-- every step has a place
unfoldable Placed : List Entry → Type 0
Placed [] = Unit
Placed (e ∷ es) = (place_of e.step < places) × Placed es

adds_up_in : (n : ℕ) → n ≡ places → (es : List Entry) → Placed es → sum (λ k. how_many k es) n ≡ length es
unfolding how_many Placed
adds_up_in n all [] h = sum-zero (λ k. how_many k []) (λ k. refl) n
adds_up_in n all (e ∷ es) h =
    let j = place_of e.step in
    omega (
      arith,
      sum-add (is j) (λ k. how_many k es) (λ k. how_many k (e ∷ es)) (λ k. refl) n,
      one_place j n (omega (arith, h.0, all)),
      adds_up_in n all es h.1,
    )

-- ---- the steps of good traces have places

placed-append : (xs ys : List Entry) → Placed xs → Placed ys → Placed (xs ++ ys)
unfolding Placed
placed-append [] ys h g = g
placed-append (x ∷ xs) ys h g = (h.0, placed-append xs ys h.1 g)

step_small : (step : ℕ) → step_ok step ≡ true → step < 0x7ff0_0000_0000_0000
unfolding step_ok
step_small step h = ltb-true step 0x7ff0_0000_0000_0000 h

placed_records : (p : Bool) (file e at : ℕ) (rs : List Record) → AllLaid e rs → Placed (entries_in p file e at rs)
unfolding entries_in entry_of Placed AllLaid
placed_records p file e at [] h = tt
placed_records true file e at (r ∷ rs) h =
    (placed r.primalstep (step_small r.primalstep h.0.primalstep), placed_records true file e (at + size_in e r) rs h.2)
placed_records false file e at (r ∷ rs) h =
    (placed r.dualstep (step_small r.dualstep h.0.dualstep), placed_records false file e (at + size_in e r) rs h.2)

good : (bs : List ℕ) → taken bs ≡ true → good_trace bs ≡ true
unfolding taken
good bs t = and_right (leb (length bs) most_bytes) (good_trace bs) t

module _ (p : Bool) (file : ℕ) (bs : List ℕ) (bytes : AllBelow 256 bs) where
  placed_file : (b : Bool) → taken bs ≡ b → Placed (entries_of p file bs)
  unfolding entries_of Placed
  placed_file true t = rw t (placed_records p file (edition_at bs) 0 (records_of bs) (traces_inverse.makes bs bytes (good bs t)).laid)
  placed_file false t = rw t tt

placed_all : (p : Bool) (file : ℕ) (files : List (List ℕ)) → AllBytes files → Placed (entries_from p file files)
unfolding entries_from Placed AllBytes
placed_all p file [] h = tt
placed_all p file (bs ∷ files) h =
    placed-append (entries_of p file bs) (entries_from p (file + 1) files) (placed_file p file bs h.0 (taken bs) refl)
    (placed_all p (file + 1) files h.1)

-- ---- how many records there are

length_in : (p : Bool) (file e at : ℕ) (rs : List Record) → length (entries_in p file e at rs) ≡ length rs
unfolding entries_in
length_in p file e at [] = refl
length_in p file e at (r ∷ rs) = ap suc (length_in p file e (at + size_in e r) rs)

-- of a file, on either side
abbrev count : List ℕ → ℕ
count bs = cond (taken bs) (length (records_of bs)) 0

length-of : (p : Bool) (file : ℕ) (bs : List ℕ) (b : Bool) → taken bs ≡ b → length (entries_of p file bs) ≡ count bs
unfolding entries_of
length-of p file bs true t = rw t (length_in p file (edition_at bs) 0 (records_of bs))
length-of p file bs false t = rw t

unfoldable counts : List (List ℕ) → ℕ
counts [] = 0
counts (bs ∷ files) = count bs + counts files

length_from : (p : Bool) (file : ℕ) (files : List (List ℕ)) → length (entries_from p file files) ≡ counts files
unfolding entries_from counts
length_from p file [] = refl
length_from p file (bs ∷ files) =
    omega (
      arith,
      length-append (entries_of p file bs) (entries_from p (file + 1) files),
      length-of p file bs (taken bs) refl,
      length_from p (file + 1) files,
    )

count_few : (bs : List ℕ) → AllBelow 256 bs → (b : Bool) → taken bs ≡ b → count bs ≤ most_records
count_few bs bytes true t = rw t (traces_inverse.makes bs bytes (good bs t)).few
count_few bs bytes false t = rw t (omega arith)

counts_few : (files : List (List ℕ)) → AllBytes files → counts files ≤ most_records * length files
unfolding counts AllBytes
counts_few [] h = omega arith
counts_few (bs ∷ files) h = omega (arith, count_few bs h.0 (taken bs) refl, counts_few files h.1)

-- ---- no count is above the records

is_few : (j k : ℕ) (b : Bool) → eqb j k ≡ b → is j k ≤ 1
is_few j k true e = rw e (omega arith)
is_few j k false e = rw e (omega arith)

many_few : (k : ℕ) (es : List Entry) → how_many k es ≤ length es
unfolding how_many
many_few k [] = omega arith
many_few k (e ∷ es) = omega (arith, is_few (place_of e.step) k _ refl, many_few k es)

counts-at : (es : List Entry) (k : ℕ) (b : Bool) → ltb k places ≡ b → get_or (counts_of es) k 0 ≤ length es
counts-at es k true early = omega (arith, get_or-counts es k (ltb-true k places early), many_few k es)
counts-at es k false late =
    let none : get_or (counts_of es) k 0 ≡ 0 = get_or-eq_default (counts_of es) 0
    (omega (arith, length-counts es, ltb-false k places late)) in
    omega arith

-- ---- the laws

module _ (files : List (List ℕ)) where
  side_adds_up : (p : Bool) → AllBytes files → total (counts_of (entries_from p 1 files)) ≡ length (entries_from false 1 files)
  side_adds_up p h =
      adds_up_in places refl (entries_from p 1 files) (placed_all p 1 files h) ∙ length_from p 1 files ∙ sym (length_from false 1 files)

  side_few : (p : Bool) (k : ℕ) → get_or (counts_of (entries_from p 1 files)) k 0 ≤ length (entries_from false 1 files)
  side_few p k =
      omega (arith, counts-at (entries_from p 1 files) k (ltb k places) refl, length_from p 1 files, length_from false 1 files)

pub sheet_laws : OfSheets
unfolding sheet_of
sheet_laws = record {
  groups = groups;
  dual_adds_up = λ files h. side_adds_up files false h;
  primal_adds_up = λ files h. side_adds_up files true h;
  few = λ files h. omega (arith, length_from false 1 files, counts_few files h);
  dual_few = λ files k. side_few files false k;
  primal_few = λ files k. side_few files true k;
}
