-- The contract equates the call with its definition, of which `trace_rescue` and Cuts prove the theorems. Of puts that were never sealed: the
-- slice holds the bytes of one record for each put, and the walk over them finds these. Assumes nothing.
use Prim.Native.Nat.{ℕ, ◌+◌, ◌-◌, ◌≤◌}
use mathlib.Core.Path.{◌≡◌, refl, sym, ap, ◌∙◌, subst}
use mathlib.Core.Bool.{Bool, true, false}
use mathlib.Core.List.{List, [], ◌∷◌, ◌++◌, map, append-nil}
use native.Mathlib.Omega.{arith}
use lib.ListN.{length, take, length-append}
use Rattle.trace_layout.specs.Records.{Record, laid_at}
use Rattle.trace_layout.specs.Traces.{most_records, records_bytes, edition_at, good_trace, records_of}
use Rattle.trace.specs.kept.Made.{handed, Held, AllPassed}
use Rattle.trace.specs.kept.Sealed.{unused, put_one, put_all}
use Rattle.trace.specs.whole.Whole.{whole_records}
use Rattle.trace.proofs.whole.Whole.{no_more, whole_written}
use Rattle.trace.proofs.kept.Sealed.{Put, put_all_lem, put_begun}
use Rattle.trace_rescue.specs.call.Rescue.{ends_known, edition_for, Saved, rescue_of}
use Rattle.trace_rescue.specs.call.Rescues.{trace_in, Done}
use Rattle.trace_rescue.proofs.call.Saving.{callers_edition, own_edition}
use Rattle.trace_rescue.proofs.call.Rescues.{rescues, editions}
use Rattle.promises.specs.read_back.Puts.{DonePut, put_turn, Chained, searches}
use Rattle.promises.specs.cut_traces.Cuts.{KeptOfCut}
use Rattle.promises.specs.cut_traces.Calls.{RescueCall, input, room, given, edition, left, new, CallsRescue, CallsCut, CallsUnsealed}
use Rattle.promises.proofs.read_back.Puts.{search, put_is, put_does, puts_are}
use Rattle.promises.proofs.cut_traces.Cuts.{left-walked, kept_of-cut}

abbrev code_in : Saved → ℕ
code_in l = l.answer.code

module _ (c : RescueCall) where
  is : left c ≡ rescue_of (input c) (room c) (given c)
  is = c.made.0

  -- what holds of the definition holds of the call
  of-call : (P : Saved → Type 0) → P (rescue_of (input c) (room c) (given c)) → P (left c)
  of-call P = subst P (sym is)

  was_done : c.x.code ≡ 0 → (rescue_of (input c) (room c) (given c)).answer.code ≡ 0
  was_done on = sym (ap code_in is) ∙ on

  done : c.x.code ≡ 0 → Done (input c) (room c) (left c)
  done on = of-call (Done (input c) (room c)) (rescues.done (input c) (room c) (given c) c.made.1 (was_done on))

pub calls_rescue : CallsRescue
calls_rescue = record {
  done = done;
  again = λ c d on same fits.
      is d ∙ ap (λ (t : List ℕ). rescue_of t (room d) (given d)) same ∙ (done c on).again (room d) (given d) fits;
  good = λ c on good.
      of-call c (λ (l : Saved). (trace_in l ≡ input c) × (l.answer.dropped ≡ 0))
      (rescues.good (input c) (room c) (given c) c.made.1 good (was_done c on));
  dropped = λ c on bad.
      of-call c
      (λ (l : Saved).
      l.answer.dropped ≡ length (input c) - length (records_bytes (edition_at (trace_in l)) (records_of (trace_in l))))
      (rescues.cut (input c) (room c) (given c) c.made.1 bad (was_done c on));
  empty = λ c edition fits none.
      ap trace_in (is c ∙ ap (λ (t : List ℕ). rescue_of t (room c) (given c)) none) ∙ rescues.empty (room c) (given c) fits edition;
  kept = λ c on known.
      of-call c (λ (l : Saved). edition_at (trace_in l) ≡ edition_at (input c))
      (editions.kept (input c) (room c) (given c) c.made.1 known (was_done c on));
  unread = λ c d known same as_long.
      is d ∙ ap (λ (t : List ℕ). rescue_of t (room d) (given d)) same ∙ ap (λ (o : List ℕ). rescue_of (input c) o (given d)) as_long
      ∙ editions.unread (input c) (room c) (given d) (given c) known ∙ sym (is c);
  taken = λ c on unknown.
      of-call c (λ (l : Saved). edition_at (trace_in l) ≡ given c)
      (editions.taken (input c) (room c) (given c) c.made.1 unknown (was_done c on));
  other = λ c unknown no-edition. is c ∙ editions.other (input c) (room c) (given c) unknown no-edition;
  short = λ c edition less. is c ∙ rescues.short (input c) (room c) (given c) edition less;
  long = λ c edition fits. ap code_in (is c) ∙ rescues.long (input c) (room c) (given c) edition fits;
  enough = λ c edition fits. ap code_in (is c) ∙ rescues.enough (input c) (room c) (given c) c.made.1 edition fits;
}

pub calls_cut : CallsCut
calls_cut c bs k bytes good cut edition on =
    let is_cut : left c ≡ rescue_of (take k bs) (room c) (given c) =
    is c ∙ ap (λ (t : List ℕ). rescue_of t (room c) (given c)) cut in
    let own : edition_for (take k bs) (given c) ≡ edition_at bs = ap (λ (t : List ℕ). edition_for t (given c)) (sym cut) ∙ edition in
    subst (KeptOfCut bs k) (sym is_cut) (kept_of-cut bs (room c) k (given c) bytes good own (sym (ap code_in is_cut) ∙ on))

-- ---- puts that were never sealed

all_passed : (e : ℕ) (ps : List (DonePut e)) → AllPassed (searches (map (put_turn e) ps))
unfolding AllPassed
all_passed e [] = tt
all_passed e (p ∷ ps) = (p.made.2, all_passed e ps)

-- each put is a record
one_more : (e : ℕ) (p : DonePut e) (h : Held) → p.a.0.now ≡ h.bytes → p.a.1.0 ≡ h.used
    → (put_one e h (search e p)).done ≡ h.done ++ (handed (search e p) ∷ [])
unfolding put_one
one_more e p h on at = rw (sym on, sym at, put_is e p, p.done)

as_many : (e : ℕ) (ps : List (DonePut e)) (h : Held) (cs : List ℕ) (end : ℕ) → Chained h.bytes h.used (map (put_turn e) ps) cs end
    → length (put_all e h (searches (map (put_turn e) ps))).done ≡ length h.done + length ps
unfolding Chained put_all
as_many e [] h cs end c = omega arith
as_many e (p ∷ ps) h cs end c =
    let now_is = put_does e p h c.0 c.1 in
    let rest : Chained (put_one e h (search e p)).bytes (put_one e h (search e p)).used (map (put_turn e) ps) cs end =
    rw (now_is.0, now_is.1) c.2 in
    let more = ap length (one_more e p h c.0 c.1) ∙ length-append h.done (handed (search e p) ∷ []) in
    omega (arith, as_many e ps (put_one e h (search e p)) cs end rest, more)

module _ (e : ℕ) (puts : List (DonePut e)) (bs cs : List ℕ) (used : ℕ) (chained : Chained bs 0 (map (put_turn e) puts) cs used)
    (few : length puts ≤ most_records) (rest : List ℕ) (none : laid_at e rest ≡ false) where
  abbrev h : Held
  h = put_all e (unused bs) (searches (map (put_turn e) puts))

  left_by_puts : (h.bytes ≡ cs) × (h.used ≡ used)
  left_by_puts = puts_are e puts (unused bs) cs used chained

  count : length h.done ≡ length puts
  count = omega (arith, as_many e puts (unused bs) cs used chained)

  put_so : Put e (length bs) h
  put_so = put_all_lem e (length bs) (unused bs) (searches (map (put_turn e) puts)) (put_begun e bs) (all_passed e puts)

  bytes_are : take used cs ≡ records_bytes e h.done
  bytes_are = rw (sym left_by_puts.0, sym left_by_puts.1) put_so.bytes

  -- the walk over these bytes and the rest finds the records that were put, and behind them none
  walked : whole_records e (take used cs ++ rest) ≡ h.done
  walked =
      ap (λ (t : List ℕ). whole_records e (t ++ rest)) bytes_are
      ∙ whole_written e most_records h.done rest put_so.laid (omega (arith, count, few))
      ∙ ap (λ (rs : List Record). h.done ++ rs) (no_more e (most_records - length h.done) rest none)
      ∙ append-nil h.done

  module _ (c : RescueCall) (found : input c ≡ take used cs ++ rest) (unmarked : ends_known (input c) ≡ false) (by : given c ≡ e)
      (on : c.x.code ≡ 0) where
    own : edition c ≡ e
    own = callers_edition (input c) (given c) unmarked ∙ by

    walk : (edition_at (new c) ≡ edition c) × (records_of (new c) ≡ whole_records (edition c) (input c))
    walk =
        of-call c (λ (l : Saved). (edition_at (trace_in l) ≡ edition c) × (records_of (trace_in l) ≡ whole_records (edition c) (input c)))
        (left-walked (input c) (room c) (given c) c.made.1 (was_done c on))

    records : records_of (new c) ≡ h.done
    records = walk.1 ∙ rw (own, found) walked

    bytes_kept : records_bytes (edition_at (new c)) (records_of (new c)) ≡ take used cs
    bytes_kept = rw (records, walk.0, own) (sym bytes_are)

    -- a good trace ends in its own edition, whatever edition a caller gives
    not_good : (b : Bool) → good_trace (input c) ≡ b → good_trace (input c) ≡ false
    not_good false bad = bad
    not_good true good =
        let mine = own_edition (input c) 0 c.made.1 good in
        let mine_too = own_edition (input c) 1 c.made.1 good in
        absurd (omega (arith, mine, mine_too, callers_edition (input c) 0 unmarked, callers_edition (input c) 1 unmarked))

    dropped_is : c.x.dropped ≡ length rest
    dropped_is =
        let told = calls_rescue.dropped c on (not_good (good_trace (input c)) refl) in
        omega (arith, told, ap length bytes_kept, ap length found, length-append (take used cs) rest)

pub calls_unsealed : CallsUnsealed
calls_unsealed e puts bs cs used chained few c rest found none unmarked by on =
    let records_are = records e puts bs cs used chained few rest none c found unmarked by on in (
      (done c on).kept ∙ ap length records_are ∙ count e puts bs cs used chained few rest none,
      dropped_is e puts bs cs used chained few rest none c found unmarked by on,
      bytes_kept e puts bs cs used chained few rest none c found unmarked by on,
    )
