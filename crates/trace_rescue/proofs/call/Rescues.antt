-- The theorems of specs/call/Rescues. Assumes nothing.
use mathlib.Core.Path.{◌≡◌, refl, sym, ap, ◌∙◌, subst}
use mathlib.Core.Bool.{true, false, not}
use mathlib.Core.List.{List, [], ◌++◌}
use Prim.Native.Nat.{ℕ, zero, suc, ◌-◌, ◌≤◌, ◌<◌}
use native.Mathlib.Omega.{arith}
use lib.Dec.{ltb}
use lib.ListN.{length, drop}
use lib.Seq.{take_at, drop_at}
use borrow.Author.Tests.{le-ltb, lt-ltb, ltb-false, not-false}
use Rattle.cone.specs.table.Table.{trace_row, settle}
use Rattle.cone.proofs.table.Settled.{trace_row-off}
use Rattle.octets.specs.words.Words.{AllBelow}
use Rattle.trace_layout.specs.Records.{Record}
use Rattle.trace_layout.specs.Traces.{most_records, known, records_bytes, trace_of, edition_at, good_trace, records_of}
use Rattle.trace_layout.specs.Inverses.{Makes}
use Rattle.trace_layout.proofs.Traces.{trace-below, good-written, edition-written, read-written}
use Rattle.trace.proofs.seal.Sealing.{length-trace}
use Rattle.trace.proofs.whole.Whole.{no_more}
use Rattle.trace.proofs.whole.Longest.{none_laid, whole_holds}
use Rattle.trace_rescue.specs.call.Rescue.{ends_known, edition_for, kept_of, saved_of, dropped_of, Saved, report_of, refuse, leave}
use Rattle.trace_rescue.specs.call.Rescue.{rescue_of}
use Rattle.trace_rescue.specs.call.Rescues.{trace_in, right_again, Done, Rescues, Editions}
use Rattle.trace_rescue.proofs.call.Saving.{kept_edition, callers_edition, own_edition, makes, own_records, same_bytes}
use Rattle.trace_rescue.proofs.call.Saving.{nothing_dropped}
use Rattle.trace_rescue.proofs.call.Saving.{rest_dropped, end_inside, saved_length}

-- a call that has room, in an edition that is known
pub room_rescued : (bs old : List ℕ) (given e : ℕ) → edition_for bs given ≡ e → known e ≡ true → length (saved_of e bs) ≤ length old
    → rescue_of bs old given ≡ leave e bs old
unfolding rescue_of trace_row settle
room_rescued bs old given e is k h = rw (is, k, le-ltb (length old) (length (saved_of e bs)) h)

-- one that has not
short_rescued : (bs old : List ℕ) (given e : ℕ) → edition_for bs given ≡ e → known e ≡ true → length old < length (saved_of e bs)
    → rescue_of bs old given ≡ refuse old 8
unfolding rescue_of trace_row settle
short_rescued bs old given e is k h = rw (is, k, lt-ltb (length old) (length (saved_of e bs)) h)

-- one in another edition
pub other_rescued : (bs old : List ℕ) (given e : ℕ) → edition_for bs given ≡ e → known e ≡ false → rescue_of bs old given ≡ refuse old 9
unfolding rescue_of trace_row settle
other_rescued bs old given e is k = rw (is, k)

trace-left : (e : ℕ) (bs old : List ℕ) → trace_in (leave e bs old) ≡ saved_of e bs
trace-left e bs old = take_at (saved_of e bs) (drop (length (saved_of e bs)) old) (length (saved_of e bs)) refl

-- a good trace that is saved as it is
right_again_lem : (x room : List ℕ) (given e : ℕ) → edition_for x given ≡ e → known e ≡ true → good_trace x ≡ true → saved_of e x ≡ x
    → (k : ℕ)
    → length (kept_of e x) ≡ k → dropped_of e x ≡ 0 → length x ≤ length room
    → ◌≡◌ {A = Saved} (rescue_of x room given)
    (record { answer = record { code = 0; kept = k; dropped = 0; length = length x; right = true }; output = x ++ drop (length x) room })
right_again_lem x room given e is edition good saved k kept dropped h =
    room_rescued x room given e is edition (omega (arith, ap length saved)) ∙ rw (good, dropped, saved, kept)

code_zero : (k e : ℕ) (bs old : List ℕ) → (settle k (leave e bs old) (refuse old)).answer.code ≡ 0 → k ≡ 0
unfolding settle
code_zero zero e bs old h = refl
code_zero (suc k) e bs old h = h

module _ (bs old : List ℕ) (given : ℕ) (on : (rescue_of bs old given).answer.code ≡ 0) where
  abbrev e : ℕ
  e = edition_for bs given

  abbrev rs : List Record
  rs = kept_of e bs

  -- no row applied
  rows : (not (known e) ≡ false) × (ltb (length old) (length (saved_of e bs)) ≡ false)
  unfolding rescue_of
  rows = trace_row-off (not (known e)) (ltb (length old) (length (saved_of e bs))) (code_zero _ e bs old on)

  edition : known e ≡ true
  edition = not-false (known e) rows.0

  is-left : rescue_of bs old given ≡ leave e bs old
  is-left = room_rescued bs old given e refl edition (ltb-false (length old) (length (saved_of e bs)) rows.1)

  trace-is : trace_in (rescue_of bs old given) ≡ saved_of e bs
  trace-is = ap trace_in is-left ∙ trace-left e bs old

  module _ (bytes : AllBelow 256 bs) where
    abbrev m : Makes e rs
    m = makes e bs bytes edition

    good_saved : good_trace (saved_of e bs) ≡ true
    good_saved = good-written e rs m.edition m.few m.laid

    records_saved : records_of (saved_of e bs) ≡ rs
    records_saved = read-written e rs m.edition m.few m.laid

    edition_saved : edition_at (saved_of e bs) ≡ e
    edition_saved = edition-written e rs m.edition m.few m.laid

    -- the saved trace, rescued again
    again : (room : List ℕ) (other : ℕ) → length (saved_of e bs) ≤ length room
        → rescue_of (saved_of e bs) room other
        ≡ record { answer = right_again (report_of e bs); output = saved_of e bs ++ drop (length (saved_of e bs)) room }
    again room other h =
        let below = trace-below e rs in
        let own = sym edition_saved in
        right_again_lem (saved_of e bs) room other e (own_edition (saved_of e bs) other below good_saved ∙ edition_saved) edition good_saved
        (same_bytes e (saved_of e bs) below good_saved own) (length rs)
        (ap length (own_records e (saved_of e bs) below good_saved own ∙ records_saved))
        (nothing_dropped e (saved_of e bs) below good_saved own) h

    done_left : Done bs old (leave e bs old)
    done_left = record {
      good = rw (trace-left e bs old) good_saved;
      behind = drop_at (saved_of e bs) (drop (length (saved_of e bs)) old) (length (saved_of e bs)) refl;
      records = rw (trace-left e bs old, edition_saved, records_saved) (whole_holds.longest e bs bytes);
      kept = rw (trace-left e bs old, records_saved);
      right = refl;
      again = λ room other h. rw (trace-left e bs old) (again room other h);
    }

    done : Done bs old (rescue_of bs old given)
    done = subst (Done bs old) (sym is-left) done_left

    of-good : good_trace bs ≡ true → (trace_in (rescue_of bs old given) ≡ bs) × ((rescue_of bs old given).answer.dropped ≡ 0)
    of-good good =
        let own = own_edition bs given bytes good in (
          trace-is ∙ same_bytes e bs bytes good own,
          ap (λ (x : Saved). x.answer.dropped) is-left ∙ nothing_dropped e bs bytes good own,
        )

    of_cut : good_trace bs ≡ false → let new = trace_in (rescue_of bs old given) in
        (rescue_of bs old given).answer.dropped ≡ length bs - length (records_bytes (edition_at new) (records_of new))
    of_cut cut =
        ap (λ (x : Saved). x.answer.dropped) is-left ∙ rest_dropped e bs bytes cut ∙ sym (rw (trace-is, edition_saved, records_saved))

    edition-is : edition_at (trace_in (rescue_of bs old given)) ≡ e
    edition-is = ap edition_at trace-is ∙ edition_saved

-- ---- an empty input

none-known : ends_known [] ≡ false
unfolding ends_known
none-known = refl

empty_saved : (e : ℕ) → saved_of e [] ≡ trace_of e []
empty_saved e = ap (trace_of e) (no_more e most_records [] (none_laid e))

of-empty : (old : List ℕ) (given : ℕ) → 20 ≤ length old → known given ≡ true → trace_in (rescue_of [] old given) ≡ trace_of given []
unfolding records_bytes
of-empty old given h k =
    let size : length (saved_of given []) ≡ 20 = ap length (empty_saved given) ∙ length-trace given [] in
    ap trace_in (room_rescued [] old given given (callers_edition [] given none-known) k (omega (arith, size)))
    ∙ trace-left given [] old ∙ empty_saved given

has_room : (bs old : List ℕ) (given : ℕ) → let e = edition_for bs given in
    known e ≡ true → length (saved_of e bs) ≤ length old → (rescue_of bs old given).answer.code ≡ 0
has_room bs old given k h = ap (λ (x : Saved). x.answer.code) (room_rescued bs old given (edition_for bs given) refl k h)

pub rescues : Rescues
rescues = record {
  done = λ bs old given bytes on. done bs old given on bytes;
  good = λ bs old given bytes good on. of-good bs old given on bytes good;
  cut = λ bs old given bytes cut on. of_cut bs old given on bytes cut;
  empty = of-empty;
  short = λ bs old given known h. short_rescued bs old given (edition_for bs given) refl known h;
  long = has_room;
  enough = λ bs old given bytes known h.
      let e = edition_for bs given in
      has_room bs old given known (omega (arith, saved_length e bs bytes, end_inside e bs bytes));
}

-- ---- the edition

same_edition : (bs old : List ℕ) (given other : ℕ) → edition_for bs given ≡ edition_for bs other
    → rescue_of bs old given ≡ rescue_of bs old other
unfolding rescue_of
same_edition bs old given other h = rw h

pub editions : Editions
editions = record {
  kept = λ bs old given bytes h on. edition-is bs old given on bytes ∙ kept_edition bs given h;
  unread = λ bs old given other h. same_edition bs old given other (kept_edition bs given h ∙ sym (kept_edition bs other h));
  taken = λ bs old given bytes h on. edition-is bs old given on bytes ∙ callers_edition bs given h;
  other = λ bs old given h k. other_rescued bs old given given (callers_edition bs given h) k;
}
