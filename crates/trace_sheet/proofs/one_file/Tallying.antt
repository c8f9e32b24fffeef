-- What is left to count at a place: the begin of the loop, a turn and its end. Assumes nothing.
use mathlib.Core.Path.{◌≡◌, refl, sym, ap, ◌∙◌}
use mathlib.Core.Bool.{Bool, true, false, cond}
use mathlib.Core.List.{List, [], ◌∷◌}
use Prim.Native.Nat.{ℕ, suc, ◌+◌, ◌-◌, ◌≤◌, ◌<◌}
use native.Mathlib.Omega.{arith}
use lib.Dec.{eqb}
use lib.ListN.{length, drop, get_or, length-drop}
use lib.Seq.{drop-drop}
use borrow.Author.Tests.{ltb-true}
use Rattle.octets.specs.words.Words.{word_at, AllBelow}
use Rattle.octets.proofs.words.Words.{below-drop}
use Rattle.trace_layout.specs.Records.{Record, step_ok, laid_at, size_at, record_at}
use Rattle.trace_layout.specs.Traces.{most_records}
use Rattle.trace_layout.proofs.Fields.{dualstep_of, dualcount_of, primalstep_of, primalcount_of}
use Rattle.trace_layout.proofs.Records.{found, size-read}
use Rattle.trace.specs.whole.Whole.{whole_in, whole_records}
use Rattle.trace.proofs.whole.Whole.{one_more, no_more}
use Rattle.trace_sheet.specs.declared.counts.Largest.{Largest}
use Rattle.trace_sheet.specs.counts.Counts.{Entry, Fresh, place_of, places, counts_of, counted, summed, none, largest_in, larger_of}
use Rattle.trace_sheet.specs.counts.Counts.{largest_of}
use Rattle.trace_sheet.specs.counts.Sheet.{entry_of, entries_in}
use Rattle.trace_sheet.proofs.counts.Rows.{all_left, none_left, counted-turn, length-counted, get_or-counted, placed}
use Rattle.trace_sheet.proofs.counts.Tops.{larger_assoc, larger_none, none_larger}
use Rattle.trace_sheet.specs.declared.one_file.Tally.{Tally}
use Rattle.trace_sheet.specs.one_file.Part.{tally_of}

-- ---- the numbers at a record's end are those of its search

module _ (e : ℕ) (t : List ℕ) where
  abbrev r : Record
  r = record_at e t

  pub step_read : (p : Bool) → cond p (word_at 8 t (size_at e t - 12)) (word_at 8 t (size_at e t - 24)) ≡ cond p r.primalstep r.dualstep
  step_read true = sym (primalstep_of e t)
  step_read false = sym (dualstep_of e t)

  pub tests_read : (p : Bool) → cond p (word_at 4 t (size_at e t - 4)) (word_at 4 t (size_at e t - 16)) ≡ cond p r.primalcount r.dualcount
  tests_read true = sym (primalcount_of e t)
  tests_read false = sym (dualcount_of e t)

  small : (step : ℕ) → step_ok step ≡ true → step < 0x7ff0_0000_0000_0000
  unfolding step_ok
  small step h = ltb-true step 0x7ff0_0000_0000_0000 h

  pub step_placed : laid_at e t ≡ true → (p : Bool) → place_of (cond p (word_at 8 t (size_at e t - 12)) (word_at 8 t
      (size_at e t - 24))) < places
  step_placed laid true = placed _ (small _ (found e t laid).primalstep)
  step_placed laid false = placed _ (small _ (found e t laid).dualstep)

-- ---- what is left at a place behind i records

module _ (p : Bool) (e : ℕ) (bs : List ℕ) where
  abbrev pub left : ℕ → ℕ → List Entry
  left at i = entries_in p 1 e at (whole_in e (most_records - i) (drop at bs))

  abbrev pub whole : List Entry
  whole = entries_in p 1 e 0 (whole_records e bs)

  -- what was counted and what is left are the whole
  pub record Reached (row : List ℕ) (largest : Largest) (at i : ℕ) : Type 0 where
    pub few : i ≤ most_records
    pub inside : at ≤ length bs
    pub all : length row ≡ places
    pub low : (k : ℕ) → get_or row k 0 ≤ i
    pub records : i + length (left at i) ≡ length whole
    pub counts : summed row (counts_of (left at i)) ≡ counts_of whole
    pub most : larger_of largest (largest_of (left at i)) ≡ largest_of whole

  pub begun : (row : List ℕ) → Fresh row → Reached row none 0 0
  begun row fresh = record {
    few = omega arith;
    inside = omega arith;
    all = fresh.all;
    low = λ k. omega (arith, fresh.zero k);
    records = omega arith;
    counts = all_left row fresh whole;
    most = none_larger whole;
  }

pub reached_as : {p : Bool} {e : ℕ} {bs row row' : List ℕ} {largest largest' : Largest} {at i : ℕ} → row' ≡ row → largest' ≡ largest
    → Reached p e bs row largest at i → Reached p e bs row' largest' at i
reached_as h k so_far = rw (h, k) so_far

sized : {m n at : ℕ} → m ≡ n → ◌≡◌ {A = Largest} (record { size = m + 1; file = 1; at = at }) (record { size = n + 1; file = 1; at = at })
sized h = rw h

tallied : {i n : ℕ} {s t : Largest} → i ≡ n → s ≡ t
    → ◌≡◌ {A = Tally} (record { records = i; largest = s }) (record { records = n; largest = t })
tallied h k = rw (h, k)

one_more_low : (n i : ℕ) (b : Bool) → n ≤ i → n + cond b 1 0 ≤ i + 1
one_more_low n i true h = omega arith
one_more_low n i false h = omega arith

module _ (p : Bool) (e : ℕ) (bs row : List ℕ) (largest : Largest) (at i : ℕ) (so_far : Reached p e bs row largest at i) where
  abbrev t : List ℕ
  t = drop at bs

  module _ (bytes : AllBelow 256 bs) (early : i < most_records) (laid : laid_at e t ≡ true) (n : ℕ) (size : n ≡ size_at e t) where
    abbrev entry : Entry
    entry = entry_of p 1 at (record_at e t)

    moved : drop (size_at e t) t ≡ drop (at + n) bs
    moved = drop-drop (size_at e t) at bs ∙ ap (λ (k : ℕ). drop (at + k) bs) (sym size)

    here : left p e bs at i ≡ entry ∷ left p e bs (at + n) (i + 1)
    unfolding entries_in
    here =
        let m = most_records - (i + 1) in
        let one_less : most_records - i ≡ suc m = omega arith in
        ap (λ (k : ℕ). entries_in p 1 e at (whole_in e k t)) one_less
        ∙ ap (entries_in p 1 e at) (one_more e m t laid)
        ∙ ap (λ (k : ℕ). entry ∷ entries_in p 1 e (at + k) (whole_in e m (drop (size_at e t) t)))
        (size-read e t (below-drop 256 at bs bytes) laid ∙ sym size)
        ∙ ap (λ (x : List ℕ). entry ∷ entries_in p 1 e (at + n) (whole_in e m x)) moved

    pub turn_inside : at + n ≤ length bs
    turn_inside = omega (arith, (found e t laid).room, length-drop at bs, so_far.inside, size)

    module _ (step tests : ℕ) (step_is : step ≡ cond p (word_at 8 t (n - 12)) (word_at 8 t (n - 24)))
        (tests_is : tests ≡ cond p (word_at 4 t (n - 4)) (word_at 4 t (n - 16))) where
      abbrev told : Largest
      told = record { size = tests + 1; file = 1; at = at }

      abbrev later : List Entry
      later = left p e bs (at + n) (i + 1)

      step_entry : step ≡ entry.step
      unfolding entry_of
      step_entry =
          step_is ∙ ap (λ (k : ℕ). cond p (word_at 8 t (k - 12)) (word_at 8 t (k - 24))) size ∙ step_read e t p

      tests_entry : tests ≡ entry.tests
      unfolding entry_of
      tests_entry =
          tests_is ∙ ap (λ (k : ℕ). cond p (word_at 4 t (k - 4)) (word_at 4 t (k - 16))) size ∙ tests_read e t p

      pub has_place : place_of step < places
      has_place =
          rw (step_is ∙ ap (λ (k : ℕ). cond p (word_at 8 t (k - 12)) (word_at 8 t (k - 24))) size) (step_placed e t laid p)

      is-here : largest_in entry ≡ told
      unfolding entry_of
      is-here = sized (sym tests_entry)

      largest-here : largest_of (left p e bs at i) ≡ larger_of (largest_in entry) (largest_of later)
      unfolding largest_of
      largest-here = ap largest_of here

      pub turned : Reached p e bs (counted row step) (larger_of largest told) (at + n) (i + 1)
      turned =
          let room : place_of step < length row = omega (arith, has_place, so_far.all) in
          record {
            few = omega arith;
            inside = turn_inside;
            all = length-counted row step ∙ so_far.all;
            low = λ k. rw (get_or-counted row step k room (eqb (place_of step) k) refl)
                (one_more_low (get_or row k 0) i (eqb (place_of step) k) (so_far.low k));
            records = omega (arith, so_far.records, ap length here);
            counts =
                ap (λ (x : ℕ). summed (counted row x) (counts_of later)) step_entry
                ∙ counted-turn row so_far.all entry (rw (← step_entry) has_place) later
                ∙ ap (λ (x : List Entry). summed row (counts_of x)) (sym here) ∙ so_far.counts;
            most =
                ap (λ (x : Largest). larger_of (larger_of largest x) (largest_of later)) (sym is-here)
                ∙ larger_assoc largest (largest_in entry) (largest_of later) ∙ ap (larger_of largest) (sym largest-here) ∙ so_far.most;
          }

  -- the end: nothing is left
  module _ (nothing : left p e bs at i ≡ []) where
    pub all_counted : row ≡ counts_of (whole p e bs)
    all_counted = none_left row so_far.all ∙ ap (λ (x : List Entry). summed row (counts_of x)) (sym nothing) ∙ so_far.counts

    all_records : i ≡ length (whole p e bs)
    all_records = omega (arith, so_far.records, ap length nothing)

    all_most : largest ≡ largest_of (whole p e bs)
    unfolding largest_of
    all_most = sym (larger_none largest) ∙ ap (λ (x : List Entry). larger_of largest (largest_of x)) (sym nothing) ∙ so_far.most

    pub all_told : record { records = i; largest = largest } ≡ tally_of (whole p e bs)
    unfolding tally_of
    all_told = tallied all_records all_most

  pub none_laid : laid_at e t ≡ false → left p e bs at i ≡ []
  unfolding entries_in
  none_laid h = ap (entries_in p 1 e at) (no_more e (most_records - i) t h)

  pub none_more : most_records ≤ i → left p e bs at i ≡ []
  unfolding whole_in entries_in
  none_more h =
      let zero_left : most_records - i ≡ 0 = omega arith in ap (λ (k : ℕ). entries_in p 1 e at (whole_in e k t)) zero_left
