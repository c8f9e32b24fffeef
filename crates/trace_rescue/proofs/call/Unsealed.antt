-- The theorems of specs/call/Unsealed: the walk finds the records that were put, and behind them none. Assumes nothing.
use mathlib.Core.Path.{◌≡◌, refl, sym, ap, ◌∙◌}
use mathlib.Core.Bool.{Bool, true, false, ◌&&◌}
use mathlib.Core.List.{List, [], ◌∷◌, ◌++◌, append-nil}
use Prim.Native.Nat.{ℕ, ◌+◌, ◌-◌, ◌≤◌}
use native.Mathlib.Omega.{arith}
use lib.Dec.{leb}
use lib.ListN.{length, take, drop, length-append}
use lib.Seq.{drop-drop, drop_at}
use borrow.Author.Tests.{le-leb, eq-eqb, ne_eqb}
use Rattle.arith.proofs.Branches.{and_left, false_not_true}
use Rattle.octets.specs.words.Words.{word_at}
use Rattle.trace_layout.specs.Records.{Record, Laid, Sized, bytes_of, size_in, laid_at}
use Rattle.trace_layout.specs.Traces.{back_mark, most_records, known, records_bytes, trace_of, AllLaid, edition_at, count_at, list_at}
use Rattle.trace_layout.specs.Traces.{trailer_ok, walks, good_trace}
use Rattle.trace_layout.proofs.Fields.{primalcount_of}
use Rattle.trace_layout.proofs.Records.{length-bytes_of, size_back, record_back, size-least}
use Rattle.trace_layout.proofs.Traces.{ends}
use Rattle.trace_layout.proofs.Appending.{records_more}
use Rattle.trace.proofs.whole.Whole.{no_more, whole_written}
use Rattle.trace.specs.kept.Sealed.{unused, put_all}
use Rattle.trace.proofs.kept.Sealed.{put_all_lem, put_begun}
use Rattle.trace_rescue.specs.call.Rescue.{ends_known, kept_of, saved_of, dropped_of, leave, rescue_of}
use Rattle.trace_rescue.specs.call.Unsealed.{rebuilt, Unsealed}
use Rattle.trace_rescue.proofs.call.Saving.{callers_edition}
use Rattle.trace_rescue.proofs.call.Rescues.{room_rescued}

-- a good trace ends in its edition and `BACK`
good-known : (bs : List ℕ) → good_trace bs ≡ true → ends_known bs ≡ true
unfolding ends_known good_trace
good-known bs good =
    let end = ends bs (and_left (trailer_ok bs) (walks (edition_at bs) (count_at bs) 0 (take (list_at bs) bs) (drop
    (list_at bs) bs)) good) in
    let enough : leb 8 (length bs) ≡ true = le-leb 8 (length bs) (omega (arith, end.enough)) in
    rw (enough, eq-eqb (word_at 4 bs (length bs - 4)) back_mark end.mark, end.edition)

not_good : (bs : List ℕ) (g : Bool) → good_trace bs ≡ g → ends_known bs ≡ false → good_trace bs ≡ false
not_good bs false g h = g
not_good bs true g h = absurd (false_not_true (sym h ∙ good-known bs g))

-- ---- records, and behind them none

module _ (e : ℕ) (rs : List Record) (rest old : List ℕ) (laid : AllLaid e rs) (few : length rs ≤ most_records) (none : laid_at e rest
    ≡ false)
    (unmarked : ends_known (records_bytes e rs ++ rest) ≡ false) where
  abbrev input : List ℕ
  input = records_bytes e rs ++ rest

  kept_is : kept_of e input ≡ rs
  kept_is =
      whole_written e most_records rs rest laid few ∙ ap (λ (x : List Record). rs ++ x) (no_more e (most_records - length rs) rest none)
      ∙ append-nil rs

  bad : good_trace input ≡ false
  bad = not_good input (good_trace input) refl unmarked

  dropped_is : dropped_of e input ≡ length rest
  unfolding dropped_of
  dropped_is = rw (kept_is, bad) (omega (arith, length-append (records_bytes e rs) rest))

  left_is : leave e input old ≡ rebuilt e rs (length rest) old
  left_is = rw (kept_is, bad, dropped_is)

  pub rescued : known e ≡ true → length (trace_of e rs) ≤ length old → rescue_of input old e ≡ rebuilt e rs (length rest) old
  rescued edition room =
      let fits : length (saved_of e input) ≤ length old = omega (arith, ap (λ (x : List Record). length (trace_of e x)) kept_is) in
      room_rescued input old e e (callers_edition input e unmarked) edition fits ∙ left_is

-- ---- the last four bytes of records

no_middle : (a b : Bool) → (a && false && b) ≡ false
no_middle true b = refl
no_middle false b = refl

word_behind : (a b : List ℕ) (k : ℕ) → word_at 4 (a ++ b) (length a + k) ≡ word_at 4 b k
unfolding word_at
word_behind a b k = rw (sym (drop-drop k (length a) (a ++ b)), drop_at a b (length a) refl)

module _ (e : ℕ) (rs : List Record) (r : Record) (laid : Laid e r) (sized : Sized r) where
  abbrev body : List ℕ
  body = records_bytes e rs

  abbrev last : List ℕ
  last = bytes_of e r

  last_length : length last ≡ size_in e r
  last_length = length-bytes_of e r laid sized []

  count_there : word_at 4 last (size_in e r - 4) ≡ r.primalcount
  count_there =
      let whole = append-nil last in
      rw (whole) at
      (ap (λ (k : ℕ). word_at 4 (last ++ []) (k - 4)) (sym (size_back e r laid sized []))
      ∙ sym (primalcount_of e (last ++ []))
      ∙ ap (λ (x : Record). x.primalcount) (record_back e r laid sized []))

  long : 56 ≤ size_in e r
  long = size-least e r.kind r.dim1 r.dim2 r.flag

  mark-is : word_at 4 (records_bytes e (rs ++ (r ∷ []))) (length (records_bytes e (rs ++ (r ∷ []))) - 4) ≡ r.primalcount
  mark-is =
      let place : length (body ++ last) - 4 ≡ length body + (size_in e r - 4) = omega (arith, length-append body last, last_length, long) in
      rw (records_more e rs r, place, word_behind body last (size_in e r - 4)) count_there

  pub not_marked : (r.primalcount ≡ back_mark → ⊥) → ends_known (records_bytes e (rs ++ (r ∷ []))) ≡ false
  unfolding ends_known
  not_marked other =
      let t = records_bytes e (rs ++ (r ∷ [])) in
      rw (ne_eqb (word_at 4 t (length t - 4)) back_mark (λ h. other (sym mark-is
      ∙ h))) (no_middle (leb 8 (length t)) (known (edition_at t)))

pub unsealed : Unsealed
unsealed = record {
  kept = λ e bs calls rest old passed edition few none room unmarked.
      let h = put_all e (unused bs) calls in
      let now = put_all_lem e (length bs) (unused bs) calls (put_begun e bs) passed in
      ap (λ (x : List ℕ). rescue_of (x ++ rest) old e) now.bytes
      ∙ rescued e h.done rest old now.laid few none (rw now.bytes at unmarked) edition room;
  unmarked = not_marked;
}
