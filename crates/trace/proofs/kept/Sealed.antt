-- Records that are put one behind another and then sealed: the theorems of specs/kept/Sealed, call by call. Assumes nothing.
use mathlib.Core.Path.{◌≡◌, refl, sym, ap, ◌∙◌, subst}
use mathlib.Core.Bool.{Bool, true, false}
use mathlib.Core.List.{List, [], ◌∷◌, ◌++◌, append_assoc}
use Prim.Native.Nat.{ℕ, ◌+◌, ◌≤◌}
use native.Mathlib.Omega.{arith}
use lib.Dec.{eqb}
use lib.ListN.{length, take, drop, length-append, length-drop}
use lib.Seq.{length-take-le, take_at, drop_at}
use borrow.Author.Tests.{eqb-true, eq-eqb, le-leb, le-ltb}
use Rattle.cone.specs.table.Table.{trace_row, settle}
use Rattle.octets.specs.words.Words.{AllBelow}
use Rattle.octets.proofs.words.Words.{below-take}
use Rattle.trace_layout.specs.declared.pieces.Entry.{Entry}
use Rattle.trace_layout.specs.pieces.Entries.{record_of}
use Rattle.trace_layout.specs.Records.{Record, Laid, Sized, bytes_of, size_in, exponents, shape_ok}
use Rattle.trace_layout.specs.Traces.{newest_edition, most_records, known, records_bytes, trace_of, AllLaid, edition_at, records_of}
use Rattle.trace_layout.proofs.Records.{length-bytes_of, laid_back, record_back}
use Rattle.trace_layout.proofs.Appending.{all_laid_more, records_more}
use Rattle.trace_layout.proofs.Traces.{good_ends, good-count, good_is_written}
use Rattle.trace.specs.places.Given.{entry_of, used_exps, can_lay}
use Rattle.trace.specs.entries.Values.{Passed}
use Rattle.trace.specs.entries.Writing.{Left, leave, longer}
use Rattle.trace.specs.declared.value.Recorded.{Recorded}
use Rattle.trace.specs.whole.Whole.{whole_records}
use Rattle.trace.specs.recording.Recording.{put_down, put_rows, record_put_of, record_at_of, whole_front, sealed_front, seal_rows}
use Rattle.trace.specs.recording.Recording.{trace_seal_of}
use Rattle.trace.specs.kept.Kept.{kept_of}
use Rattle.trace.specs.kept.Appended.{trace_in, Appended}
use Rattle.trace.specs.kept.Made.{Call, handed, called, AllPassed, Held, begun, append_one, append_all}
use Rattle.trace.specs.kept.Sealed.{put_call, unused, put_one, put_all, seal_all, EachAppended, PutSealed}
use Rattle.trace.proofs.whole.Longest.{whole_of_records}
use Rattle.trace.proofs.seal.Sealing.{length-trace}
use Rattle.trace.proofs.recording.Judging.{PutFree, put_free}
use Rattle.trace.proofs.kept.Appended.{settled, exponent_places, given_laid, given-sized, append_done, ok, left_is}
use Rattle.trace.proofs.kept.Appended.{longer_fits}
use Rattle.trace.proofs.kept.Made.{Stands, stands_begun, one-call, is_created, create_done}
use Rattle.trace.proofs.kept.Kept.{values_kept}

-- the arguments of a call are values of their types
abbrev Fits : Call → Type 0
Fits a = Passed a.cone a.flag a.settings a.dz a.ds a.z a.s a.steps

-- ---- one record put

module _ (e : ℕ) (bs : List ℕ) (at : ℕ) (a : Call) (passed : Fits a) where
  abbrev r : Record
  r = handed a

  abbrev new : List ℕ
  new = bytes_of e r

  abbrev left : Left
  left = put_call e bs at a

  abbrev x : Entry
  x = entry_of a.cone a.flag a.settings a.steps

  abbrev places : shape_ok x.kind x.dim1 x.dim2 x.flag ≡ true → length (used_exps a.cone) ≡ exponents x.kind x.dim1
  places = exponent_places a.cone a.flag a.settings a.dz a.ds a.z a.s a.steps passed

  -- no row applies where the record can be laid out and has room
  pub rows_pass : known e ≡ true → can_lay e r ≡ true → at + length new ≤ length bs → put_rows bs at e r ≡ 0
  unfolding put_rows trace_row
  rows_pass edition laid room =
      rw (edition, laid, le-leb at (length bs) (omega arith), le-ltb (length bs) (at + length new) room)

  pub put_passes : put_rows bs at e r ≡ 0 → left.answer.code ≡ 0
  unfolding record_put_of settle
  put_passes off = rw off

  module _ (done : left.answer.code ≡ 0) where
    rows-off : put_rows bs at e r ≡ 0
    unfolding record_put_of
    rows-off = settled (put_rows bs at e r) bs (put_down bs at new) done

    is_put : left ≡ put_down bs at new
    unfolding record_put_of settle
    is_put = rw rows-off

    free : PutFree bs at e x (used_exps a.cone) a.dz a.ds a.z a.s places
    free = put_free bs at e x (used_exps a.cone) a.dz a.ds a.z a.s places rows-off

    pub put_laid : Laid e r
    put_laid = given_laid a.cone a.flag a.settings a.dz a.ds a.z a.s a.steps passed e free.laid

    pub put_sized : Sized r
    put_sized = given-sized a.cone a.flag a.settings a.dz a.ds a.z a.s a.steps passed

    pub put_length : left.answer.length ≡ at + length new
    put_length = ap (λ (l : Left). l.answer.length) is_put

    pub put_room : at + length new ≤ length bs
    put_room = free.room

    abbrev behind : List ℕ
    behind = drop (at + length new) bs

    before : length (take at bs) ≡ at
    before = length-take-le at bs (omega (arith, put_room))

    -- the bytes up to the record's end, and those from its begin on
    pub put_front : take (at + length new) left.bytes ≡ take at bs ++ new
    put_front =
        ap (λ (l : Left). take (at + length new) l.bytes) is_put
        ∙ take_at (take at bs ++ new) behind (at + length new) (omega (arith, length-append (take at bs) new, before))

    put_from : drop at left.bytes ≡ new ++ behind
    put_from =
        ap (λ (l : Left). drop at l.bytes) is_put ∙ ap (drop at) (append_assoc (take at bs) new behind)
        ∙ drop_at (take at bs) (new ++ behind) at before

    pub put_long : length left.bytes ≡ length bs
    put_long =
        ap (λ (l : Left). length l.bytes) is_put
        ∙ omega (
          arith,
          length-append (take at bs ++ new) behind,
          length-append (take at bs) new,
          before,
          length-drop (at + length new) bs,
          put_room,
        )

    -- it is read back the same
    pub put_read : record_at_of left.bytes e at
        ≡ kept_of e at a.cone a.flag a.settings a.dz a.ds a.z a.s a.steps
    unfolding record_at_of
    put_read =
        rw (put_from, free.edition, laid_back e r put_laid put_sized behind, record_back e r put_laid put_sized behind)
        (values_kept a.cone a.flag a.settings a.dz a.ds a.z a.s a.steps passed e at)

    pub put_next : (record_at_of left.bytes e at).next ≡ left.answer.length
    unfolding kept_of
    put_next =
        ap (λ (k : Recorded). k.next) put_read ∙ ap (λ (n : ℕ). at + n) (sym (length-bytes_of e r put_laid put_sized []))
        ∙ sym put_length

-- ---- call by call

-- what holds after each call, in a slice of `room` bytes
pub record Put (e room : ℕ) (h : Held) : Type 0 where
  pub inside : h.used ≤ length h.bytes
  pub long : length h.bytes ≡ room
  pub bytes : take h.used h.bytes ≡ records_bytes e h.done
  pub laid : AllLaid e h.done

-- the slice and its use behind a done call
abbrev one_more : ℕ → Held → Call → Held
one_more e h a =
    let left = put_call e h.bytes h.used a in
    record { bytes = left.bytes; used = left.answer.length; done = h.done ++ (handed a ∷ []) }

put_more : (e room : ℕ) (h : Held) (a : Call) → Put e room h → Fits a → (put_call e h.bytes h.used a).answer.code ≡ 0
    → Put e room (one_more e h a)
put_more e room h a now passed done =
    let left = put_call e h.bytes h.used a in
    let length-is = put_length e h.bytes h.used a passed done in
    let long = put_long e h.bytes h.used a passed done in
    record {
      inside = omega (arith, length-is, put_room e h.bytes h.used a passed done, long);
      long = long ∙ now.long;
      bytes =
          ap (λ (k : ℕ). take k left.bytes) length-is ∙ put_front e h.bytes h.used a passed done
          ∙ ap (λ (x : List ℕ). x ++ bytes_of e (handed a)) now.bytes
          ∙ sym (records_more e h.done (handed a));
      laid =
          all_laid_more e h.done (handed a) now.laid (put_laid e h.bytes h.used a passed done)
          (put_sized e h.bytes h.used a passed done);
    }

put_one_lem : (e room : ℕ) (h : Held) (a : Call) → Put e room h → Fits a → (done : Bool)
    → eqb (put_call e h.bytes h.used a).answer.code 0 ≡ done → Put e room (put_one e h a)
unfolding put_one
put_one_lem e room h a now passed false off = rw off now
put_one_lem e room h a now passed true on = rw on (put_more e room h a now passed (eqb-true _ _ on))

pub put_all_lem : (e room : ℕ) (h : Held) (calls : List Call) → Put e room h → AllPassed calls → Put e room (put_all e h calls)
unfolding put_all AllPassed
put_all_lem e room h [] now passed = now
put_all_lem e room h (a ∷ calls) now passed =
    put_all_lem e room (put_one e h a) calls
    (put_one_lem e room h a now passed.0 (eqb (put_call e h.bytes h.used a).answer.code 0) refl) passed.1

pub put_begun : (e : ℕ) (bs : List ℕ) → Put e (length bs) (unused bs)
unfolding records_bytes AllLaid
put_begun e bs = record { inside = omega arith; long = refl; bytes = refl; laid = tt }

-- ---- the seal of bytes that are those of records

module _ (e : ℕ) (bs : List ℕ) (used : ℕ) (rs : List Record) (inside : used ≤ length bs) (is : take used bs ≡ records_bytes e rs)
    (laid : AllLaid e rs) (few : length rs ≤ most_records) where
  whole_is : whole_records e (take used bs) ≡ rs
  whole_is = ap (whole_records e) is ∙ whole_of_records e rs laid few

  used_is : length (records_bytes e rs) ≡ used
  used_is = sym (ap length is) ∙ length-take-le used bs inside

  pub seal_leaves : (trace_seal_of bs used e).answer.code ≡ 0 → trace_in (trace_seal_of bs used e) ≡ trace_of e rs
  unfolding trace_seal_of settle
  seal_leaves done =
      let new = sealed_front bs used e in
      rw (settled (seal_rows bs used e) bs (leave bs new) done) (take_at new (drop (length new) bs) (length new) refl
      ∙ ap (trace_of e) whole_is)

  rows_none : known e ≡ true → length (trace_of e rs) ≤ length bs → seal_rows bs used e ≡ 0
  unfolding seal_rows whole_front trace_row
  rows_none edition room =
      rw (
        whole_is,
        edition,
        le-leb used (length bs) inside,
        eq-eqb (length (records_bytes e rs)) used used_is,
        le-ltb (length bs) (length (trace_of e rs)) room,
      )

  pub seal_passes : known e ≡ true → length (trace_of e rs) ≤ length bs → (trace_seal_of bs used e).answer.code ≡ 0
  unfolding trace_seal_of settle
  seal_passes edition room = rw (rows_none edition room)

-- ---- create and appends in one slice, puts in another

-- what holds after each pair of calls
pub record Alike (room : ℕ) (made put : Held) : Type 0 where
  pub stands : Stands made
  pub edition : edition_at (take made.used made.bytes) ≡ newest_edition
  pub inside : made.used ≤ length made.bytes
  pub long : length made.bytes ≤ room
  pub puts : Put newest_edition room put
  pub records : put.done ≡ made.done

module _ (room : ℕ) (made put : Held) (now : Alike room made put) where
  abbrev trace : List ℕ
  trace = take made.used made.bytes

  trace_bytes : AllBelow 256 trace
  trace_bytes = below-take 256 made.used made.bytes now.stands.bytes

  -- the trace that the appends made is that of the records that were put
  pub trace-made : trace ≡ trace_of newest_edition put.done
  trace-made =
      good_is_written trace trace_bytes now.stands.good ∙ ap (λ (k : ℕ). trace_of k (records_of trace)) now.edition
      ∙ ap (trace_of newest_edition) (now.stands.records ∙ sym now.records)

  pub few_made : length put.done ≤ most_records
  few_made =
      omega (
        arith,
        ap length (now.stands.records ∙ sym now.records),
        good-count trace trace_bytes now.stands.good,
        (good_ends trace trace_bytes now.stands.good).few,
      )

  pub room-made : length (trace_of newest_edition put.done) ≤ length put.bytes
  room-made = omega (arith, ap length trace-made, length-take-le made.used made.bytes now.inside, now.inside, now.long, now.puts.long)

  -- the bytes that were put are fewer than the trace's
  put_less : put.used + 20 ≤ made.used
  put_less =
      omega (
        arith,
        ap length trace-made,
        length-take-le made.used made.bytes now.inside,
        length-trace newest_edition put.done,
        ap length now.puts.bytes,
        length-take-le put.used put.bytes now.puts.inside,
      )

  module _ (a : Call) (passed : Fits a) (done : (called made.bytes made.used a).answer.code ≡ 0) where
    abbrev grown : List ℕ
    grown = longer made.bytes made.used (handed a)

    can_put : can_lay newest_edition (handed a) ≡ true
    can_put =
        rw now.edition at
        (ok a.cone a.flag a.settings a.dz a.ds a.z a.s a.steps passed made.bytes made.used now.stands.bytes
        done).laid

    after : Appended made.bytes made.used (handed a) (called made.bytes made.used a)
    after =
        append_done a.cone a.flag a.settings a.dz a.ds a.z a.s a.steps passed made.bytes made.used
        now.stands.bytes done

    is-grown : called made.bytes made.used a ≡ leave made.bytes grown
    is-grown =
        left_is a.cone a.flag a.settings a.dz a.ds a.z a.s a.steps passed made.bytes made.used
        now.stands.bytes done

    fits : length grown ≤ length made.bytes
    fits =
        longer_fits a.cone a.flag a.settings a.dz a.ds a.z a.s a.steps passed made.bytes made.used
        now.stands.bytes done

    -- the record has room where it is put: the appended one had, and list and trailer besides
    room_put : put.used + length (bytes_of newest_edition (handed a)) ≤ length put.bytes
    unfolding record_of
    room_put =
        let room-here : made.used + size_in newest_edition (handed a) + 8 ≤ length made.bytes =
        rw now.edition at
        (ok a.cone a.flag a.settings a.dz a.ds a.z a.s a.steps passed made.bytes made.used now.stands.bytes
        done).room in
        let laid = given_laid a.cone a.flag a.settings a.dz a.ds a.z a.s a.steps passed newest_edition can_put in
        let sized = given-sized a.cone a.flag a.settings a.dz a.ds a.z a.s a.steps passed in
        omega (arith, room-here, length-bytes_of newest_edition (handed a) laid sized [], put_less, now.long, now.puts.long)

    put_done : (put_call newest_edition put.bytes put.used a).answer.code ≡ 0
    unfolding known
    put_done =
        put_passes newest_edition put.bytes put.used a passed
        (rows_pass newest_edition put.bytes put.used a passed refl can_put room_put)

    -- both calls were done
    abbrev appended : Held
    appended =
        let left = called made.bytes made.used a in
        record { bytes = left.bytes; used = left.answer.length; done = made.done ++ (handed a ∷ []) }

    is_appended : append_one made a ≡ appended
    unfolding append_one
    is_appended = rw (eq-eqb (called made.bytes made.used a).answer.code 0 done)

    is-put_one : put_one newest_edition put a ≡ one_more newest_edition put a
    unfolding put_one
    is-put_one = rw (eq-eqb (put_call newest_edition put.bytes put.used a).answer.code 0 put_done)

    grown_long : length (called made.bytes made.used a).bytes ≡ length made.bytes
    grown_long =
        ap (λ (l : Left). length l.bytes) is-grown
        ∙ omega (arith, length-append grown (drop (length grown) made.bytes), length-drop (length grown) made.bytes, fits)

    alike_done : Alike room appended (one_more newest_edition put a)
    alike_done = record {
      stands =
          subst Stands is_appended
          (one-call made a now.stands passed true (eq-eqb (called made.bytes made.used a).answer.code 0 done));
      edition = after.edition ∙ now.edition;
      inside = omega (arith, ap (λ (l : Left). l.answer.length) is-grown, grown_long, fits);
      long = omega (arith, grown_long, now.long);
      puts = put_more newest_edition room put a now.puts passed put_done;
      records = ap (λ (rs : List Record). rs ++ (handed a ∷ [])) now.records;
    }

    pub alike_more : Alike room (append_one made a) (put_one newest_edition put a)
    alike_more = rw (is_appended, is-put_one) alike_done

alike_all : (room : ℕ) (made put : Held) (calls : List Call) → Alike room made put → AllPassed calls → EachAppended made calls
    → Alike room (append_all made calls) (put_all newest_edition put calls)
unfolding append_all put_all AllPassed EachAppended
alike_all room made put [] now passed each = now
alike_all room made put (a ∷ calls) now passed each =
    alike_all room (append_one made a) (put_one newest_edition put a) calls (alike_more room made put now a passed.0 each.0) passed.1
    each.1

module _ (bs cs : List ℕ) (bytes : AllBelow 256 cs) (room : 20 ≤ length cs) (long : length cs ≤ length bs) where
  abbrev empty : List ℕ
  empty = trace_of newest_edition []

  empty-length : length empty ≡ 20
  unfolding records_bytes
  empty-length = length-trace newest_edition []

  created_long : length (begun cs).bytes ≡ length cs
  created_long =
      ap (λ (l : Left). length l.bytes) (is_created cs room)
      ∙ omega (arith, length-append empty (drop (length empty) cs), length-drop (length empty) cs, empty-length)

  alike_begun : Alike (length bs) (begun cs) (unused bs)
  alike_begun = record {
    stands = stands_begun cs bytes room;
    edition = (create_done cs room).edition;
    inside = omega (arith, ap (λ (l : Left). l.answer.length) (is_created cs room), created_long, empty-length);
    long = omega (arith, created_long);
    puts = put_begun newest_edition bs;
    records = refl;
  }

  module _ (calls : List Call) (passed : AllPassed calls) (each : EachAppended (begun cs) calls) where
    abbrev made : Held
    made = append_all (begun cs) calls

    abbrev h : Held
    h = put_all newest_edition (unused bs) calls

    end : Alike (length bs) made h
    end = alike_all (length bs) (begun cs) (unused bs) calls alike_begun passed each

    seals : (seal_all newest_edition h).answer.code ≡ 0
    unfolding known
    seals =
        seal_passes newest_edition h.bytes h.used h.done end.puts.inside end.puts.bytes end.puts.laid
        (few_made (length bs) made h end) refl (room-made (length bs) made h end)

    same_trace : (h.done ≡ made.done) × ((seal_all newest_edition h).answer.code ≡ 0)
        × (trace_in (seal_all newest_edition h) ≡ take made.used made.bytes)
    same_trace = (
      end.records,
      seals,
      seal_leaves newest_edition h.bytes h.used h.done end.puts.inside end.puts.bytes end.puts.laid
          (few_made (length bs) made h end) seals
          ∙ sym (trace-made (length bs) made h end),
    )

pub put_sealed : PutSealed
put_sealed = record {
  read = λ e bs at a passed done. (put_read e bs at a passed done, put_next e bs at a passed done);
  bytes = λ e bs calls passed. (put_all_lem e (length bs) (unused bs) calls (put_begun e bs) passed).bytes;
  sealed = λ e bs calls passed few done.
      let h = put_all e (unused bs) calls in
      let now = put_all_lem e (length bs) (unused bs) calls (put_begun e bs) passed in
      seal_leaves e h.bytes h.used h.done now.inside now.bytes now.laid few done;
  same = λ bs cs calls bytes room long passed each. same_trace bs cs bytes room long calls passed each;
}
