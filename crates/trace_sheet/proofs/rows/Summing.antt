-- Whether a sum of two rows has room, and the sum: place by place, as the loops go. Assumes nothing.
use mathlib.Core.Path.{◌≡◌, refl, sym, ap, ◌∙◌}
use mathlib.Core.Bool.{Bool, true, false, ◌||◌}
use mathlib.Core.List.{List, [], ◌∷◌}
use Prim.Native.Nat.{ℕ, zero, suc, ◌+◌, ◌-◌, ◌<◌, ◌≤◌}
use native.Mathlib.Omega.{arith}
use native.Mathlib.Numerals.{add-one}
use lib.Dec.{ltb}
use lib.ListN.{length, take, drop, get_or, set}
use lib.ListN.{replicate, length-set, length-replicate, get_or-replicate, drop_of_length-le, get_or-eq_default}
use lib.Seq.{drop-cons, drop-drop, drop-set-lt, get_or-drop}
use borrow.Author.Tests.{lt-ltb, le-ltb, ltb-true, ltb-false}
use Rattle.arith.proofs.Branches.{or_left, or_right}
use Rattle.arith.proofs.Filling.{fill_more, fill_end}
use Rattle.trace_sheet.specs.counts.Counts.{Fresh, places, summed}
use Rattle.trace_sheet.proofs.counts.Rows.{length-summed, get_or-summed}
use Rattle.trace_sheet.specs.rows.Rows.{spills}

abbrev pub most : ℕ
most = 0xffff_ffff_ffff_ffff

above_rest_by : (x y : ℕ) → x ≤ most → (b : Bool) → ltb (most - x) y ≡ b → b ≡ ltb most (x + y)
above_rest_by x y h true e = sym (lt-ltb most (x + y) (omega (arith, ltb-true (most - x) y e)))
above_rest_by x y h false e = sym (le-ltb most (x + y) (omega (arith, ltb-false (most - x) y e)))

-- without a sum that could wrap
pub above-rest : (x y : ℕ) → x ≤ most → ltb (most - x) y ≡ ltb most (x + y)
above-rest x y h = above_rest_by x y h (ltb (most - x) y) refl

-- a row of zeros
zero-by : (n k : ℕ) (b : Bool) → ltb k n ≡ b → ◌≡◌ {A = ℕ} (get_or (replicate n 0) k 0) 0
zero-by n k true e = get_or-replicate n k 0 0 (ltb-true k n e)
zero-by n k false e = get_or-eq_default (replicate n 0) 0 (omega (arith, length-replicate {A = ℕ} n 0, ltb-false k n e))

pub zeros : (n : ℕ) → n ≡ places → Fresh (replicate n 0)
zeros n all = record { all = length-replicate n 0 ∙ all; zero = λ k. zero-by n k (ltb k n) refl }

-- ---- from a place on

module _ (xs ys : List ℕ) (i : ℕ) where
  abbrev pub left : Bool
  left = spills (drop i xs) (drop i ys)

  pub none_first : length xs ≤ i → left ≡ false
  unfolding spills
  none_first h = rw (drop_of_length-le xs {i = i} h)

  short : (zs : List ℕ) → spills zs [] ≡ false
  unfolding spills
  short [] = refl
  short (z ∷ zs) = refl

  pub none-second : length ys ≤ i → left ≡ false
  none-second h = rw (drop_of_length-le ys {i = i} h) (short (drop i xs))

  module _ (hx : i < length xs) (hy : i < length ys) where
    here : left ≡ (ltb most (get_or xs i 0 + get_or ys i 0) || spills (drop (suc i) xs) (drop (suc i) ys))
    unfolding spills
    here = rw (drop-cons xs i 0 hx, drop-cons ys i 0 hy)

    pub spilled : most < get_or xs i 0 + get_or ys i 0 → left ≡ true
    spilled h = here ∙ rw (lt-ltb most (get_or xs i 0 + get_or ys i 0) h)

    pub fitted : get_or xs i 0 + get_or ys i 0 ≤ most → spills (drop (i + 1) xs) (drop (i + 1) ys) ≡ left
    fitted h = rw (add-one i) (sym (here ∙ rw (le-ltb most (get_or xs i 0 + get_or ys i 0) h)))

-- ---- a sum that has room

pub has_room : (xs ys : List ℕ) (k : ℕ) → spills xs ys ≡ false → k < length xs → length xs ≡ length ys
    → get_or xs k 0 + get_or ys k 0 ≤ most
unfolding spills
has_room [] ys k h g e = absurd (omega arith)
has_room (x ∷ xs) [] k h g e = absurd (omega arith)
has_room (x ∷ xs) (y ∷ ys) zero h g e = ltb-false most (x + y) (or_left (ltb most (x + y)) (spills xs ys) h)
has_room (x ∷ xs) (y ∷ ys) (suc k) h g e = has_room xs ys k (or_right (ltb most (x + y)) (spills xs ys) h) (omega arith) (omega arith)

pub no_spill : (xs ys : List ℕ) → ((k : ℕ) → get_or xs k 0 + get_or ys k 0 ≤ most) → spills xs ys ≡ false
unfolding spills
no_spill [] ys h = refl
no_spill (x ∷ xs) [] h = refl
no_spill (x ∷ xs) (y ∷ ys) h = rw (le-ltb most (x + y) (h 0), no_spill xs ys (λ k. h (suc k)))

-- ---- the loop that sums

-- the first i places hold the sum, and those behind are as they were
pub record Reached (old more row : List ℕ) (i : ℕ) : Type 0 where
  pub few : i ≤ length old
  pub all : length row ≡ length old
  pub front : take i row ≡ take i (summed old more)
  pub behind : drop i row ≡ drop i old

module _ (old more : List ℕ) (alike : length old ≡ length more) where
  pub begun : Reached old more old 0
  begun = record { few = omega arith; all = refl; front = refl; behind = refl }

  module _ (row : List ℕ) (i : ℕ) (so_far : Reached old more row i) where
    -- the place is as it was
    pub as_was : get_or row i 0 ≡ get_or old i 0
    as_was =
        let z : i ≡ i + 0 = omega arith in
        ap (λ (k : ℕ). get_or row k 0) z ∙ sym (get_or-drop i row 0 0) ∙ ap (λ (l : List ℕ). get_or l 0 0) so_far.behind
        ∙ get_or-drop i old 0 0 ∙ ap (λ (k : ℕ). get_or old k 0) (sym z)

    behind_more : (a : ℕ) → drop (i + 1) (set row i a) ≡ drop (i + 1) old
    behind_more a =
        drop-set-lt (i + 1) row i a (omega arith) ∙ one_less row ∙ ap (drop 1) so_far.behind ∙ sym (one_less old)
      where
        one_less : (l : List ℕ) → drop (i + 1) l ≡ drop 1 (drop i l)
        one_less l = sym (drop-drop 1 i l)

    pub turned : i < length old → Reached old more (set row i (get_or row i 0 + get_or more i 0)) (i + 1)
    turned early = record {
      few = omega arith;
      all = length-set row i (get_or row i 0 + get_or more i 0) ∙ so_far.all;
      front =
          fill_more row (summed old more) i (get_or row i 0 + get_or more i 0) 0 (omega (arith, so_far.all))
          (omega (arith, length-summed old more alike)) so_far.front
          (ap (λ (n : ℕ). n + get_or more i 0) as_was ∙ sym (get_or-summed old more i alike));
      behind = behind_more (get_or row i 0 + get_or more i 0);
    }

    pub done : length old ≤ i → row ≡ summed old more
    done full =
        let end : length row ≡ i = omega (arith, so_far.all, so_far.few) in
        fill_end row (summed old more) i end (omega (arith, length-summed old more alike, so_far.few)) so_far.front
