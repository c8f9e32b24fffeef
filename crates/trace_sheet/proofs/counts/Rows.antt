-- Rows of counts, place by place: a table, a sum of two rows, one step more. Assumes nothing.
use mathlib.Core.Path.{◌≡◌, refl, sym, ap, ◌∙◌}
use mathlib.Core.Bool.{Bool, true, false, cond}
use mathlib.Core.List.{List, [], ◌∷◌}
use Prim.Native.Nat.{ℕ, zero, suc, ◌+◌, ◌<◌}
use native.Mathlib.Omega.{arith}
use lib.Dec.{eqb, ltb}
use lib.ListN.{length, get_or, length-set, length-append, get_or-append}
use lib.Seq.{ext_get_or, get_or_at, get_or-set_same, get_or-set_other}
use borrow.Author.Tests.{eqb-true, eqb-false, ltb-true, ltb-false}
use Rattle.trace_sheet.specs.counts.Counts.{Entry, Fresh, place_of, places, how_many, table, counts_of, counted, summed}

-- ---- tables

pub length-table : (f : ℕ → ℕ) (n : ℕ) → length (table f n) ≡ n
unfolding table
length-table f zero = refl
length-table f (suc n) = omega (arith, length-append (table f n) (f n ∷ []), length-table f n)

get_or_table_by : (f : ℕ → ℕ) (n k : ℕ) → k < suc n → (b : Bool) → ltb k n ≡ b → (k < n → get_or (table f n) k 0 ≡ f k)
    → get_or (table f (suc n)) k 0 ≡ f k
unfolding table
get_or_table_by f n k h true e earlier =
    get_or-append (table f n) (f n ∷ []) 0 k (omega (arith, length-table f n, ltb-true k n e)) ∙ earlier (ltb-true k n e)
get_or_table_by f n k h false e earlier =
    let last : k ≡ n = omega (arith, ltb-false k n e) in
    rw last (get_or_at (table f n) (f n) [] 0 n (length-table f n))

pub get_or-table : (f : ℕ → ℕ) (n k : ℕ) → k < n → get_or (table f n) k 0 ≡ f k
get_or-table f zero k h = absurd (omega arith)
get_or-table f (suc n) k h = get_or_table_by f n k h (ltb k n) refl (get_or-table f n k)

-- ---- sums of two rows

pub length-summed : (xs ys : List ℕ) → length xs ≡ length ys → length (summed xs ys) ≡ length xs
unfolding summed
length-summed [] ys h = refl
length-summed (x ∷ xs) [] h = absurd (omega arith)
length-summed (x ∷ xs) (y ∷ ys) h = ap suc (length-summed xs ys (omega arith))

pub get_or-summed : (xs ys : List ℕ) (k : ℕ) → length xs ≡ length ys → get_or (summed xs ys) k 0 ≡ get_or xs k 0 + get_or ys k 0
unfolding summed
get_or-summed [] [] k h = refl
get_or-summed [] (y ∷ ys) k h = absurd (omega arith)
get_or-summed (x ∷ xs) [] k h = absurd (omega arith)
get_or-summed (x ∷ xs) (y ∷ ys) zero h = refl
get_or-summed (x ∷ xs) (y ∷ ys) (suc k) h = get_or-summed xs ys k (omega arith)

-- ---- the counts of steps

pub length-counts : (es : List Entry) → length (counts_of es) ≡ places
length-counts es = length-table (λ k. how_many k es) places

pub get_or-counts : (es : List Entry) (k : ℕ) → k < places → get_or (counts_of es) k 0 ≡ how_many k es
get_or-counts es k h = get_or-table (λ k. how_many k es) places k h

pub length-counted : (row : List ℕ) (step : ℕ) → length (counted row step) ≡ length row
unfolding counted
length-counted row step = length-set row (place_of step) (get_or row (place_of step) 0 + 1)

pub get_or-counted : (row : List ℕ) (step k : ℕ) → place_of step < length row → (b : Bool) → eqb (place_of step) k ≡ b
    → get_or (counted row step) k 0 ≡ get_or row k 0 + cond b 1 0
unfolding counted
get_or-counted row step k h true e =
    let here : place_of step ≡ k = eqb-true (place_of step) k e in
    rw (← here) (get_or-set_same row (place_of step) (get_or row (place_of step) 0 + 1) 0 h)
get_or-counted row step k h false e =
    let other : k ≡ place_of step → ⊥ = λ i. eqb-false (place_of step) k e (sym i) in
    get_or-set_other row (place_of step) k (get_or row (place_of step) 0 + 1) 0 other ∙ omega arith

-- a row and the counts of what is left: one step more here is one less there
module _ (row : List ℕ) (all : length row ≡ places) where
  pub summed-length : (es : List Entry) → length (summed row (counts_of es)) ≡ places
  summed-length es = length-summed row (counts_of es) (all ∙ sym (length-counts es)) ∙ all

  pub summed_at : (es : List Entry) (k : ℕ) → k < places → get_or (summed row (counts_of es)) k 0 ≡ get_or row k 0 + how_many k es
  summed_at es k h =
      get_or-summed row (counts_of es) k (all ∙ sym (length-counts es)) ∙ ap (λ (n : ℕ). get_or row k 0 + n) (get_or-counts es k h)

  pub none_left : row ≡ summed row (counts_of [])
  unfolding how_many
  none_left =
      ext_get_or 0 row (summed row (counts_of [])) (all ∙ sym (summed-length []))
      (λ k h. omega (arith, summed_at [] k (omega arith)))

module _ (row : List ℕ) (fresh : Fresh row) where
  pub all_left : (es : List Entry) → summed row (counts_of es) ≡ counts_of es
  all_left es =
      ext_get_or 0 (summed row (counts_of es)) (counts_of es) (summed-length row fresh.all es ∙ sym (length-counts es))
      (λ k h. let early : k < places = omega (arith, summed-length row fresh.all es) in
      summed_at row fresh.all es k early ∙ omega (arith, fresh.zero k, get_or-counts es k early))

module _ (row : List ℕ) (all : length row ≡ places) (e : Entry) (inside : place_of e.step < places) where
  counted_all : length (counted row e.step) ≡ places
  counted_all = length-counted row e.step ∙ all

  turn_at : (es : List Entry) (k : ℕ) → k < places → (b : Bool) → eqb (place_of e.step) k ≡ b
      → get_or (summed (counted row e.step) (counts_of es)) k 0 ≡ get_or (summed row (counts_of (e ∷ es))) k 0
  unfolding how_many
  turn_at es k h b same =
      summed_at (counted row e.step) counted_all es k h
      ∙ ap (λ (n : ℕ). n + how_many k es) (get_or-counted row e.step k (omega (arith, all)) b same)
      ∙ omega arith
      ∙ ap (λ (c : Bool). get_or row k 0 + (cond c 1 0 + how_many k es)) (sym same)
      ∙ sym (summed_at row all (e ∷ es) k h)

  pub counted-turn : (es : List Entry) → summed (counted row e.step) (counts_of es) ≡ summed row (counts_of (e ∷ es))
  counted-turn es =
      let size = summed-length (counted row e.step) counted_all es in
      ext_get_or 0 _ _ (size ∙ sym (summed-length row all (e ∷ es))) (λ k h. turn_at es k (omega (arith, size)) _ refl)

-- a step that is +0 or positive and finite has a place
placed_by : (step : ℕ) → step < 0x7ff0_0000_0000_0000 → (b : Bool) → eqb step 0 ≡ b → place_of step < places
unfolding place_of
placed_by step h true e = rw e (omega arith)
placed_by step h false e = rw e (omega arith)

pub placed : (step : ℕ) → step < 0x7ff0_0000_0000_0000 → place_of step < places
placed step h = placed_by step h (eqb step 0) refl
