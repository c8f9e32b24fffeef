-- What the code judges by numbers is what the definitions judge by records, and what it stores is the record's bytes, or the trace of the
-- whole records. Assumes nothing.
use mathlib.Core.Path.{◌≡◌, refl, sym, ap, ◌∙◌}
use mathlib.Core.Bool.{Bool, true, false, not, ◌&&◌}
use mathlib.Core.List.{List, ◌++◌}
use Prim.Native.Nat.{ℕ, ◌+◌, ◌*◌, ◌≤◌}
use native.Mathlib.Omega.{arith}
use lib.Dec.{eqb, leb, ltb}
use lib.Ieee.{Float}
use lib.ListN.{length, take, drop, length-take, length-append}
use lib.Seq.{sets, sets-eq, length-take-le, take_all}
use borrow.Author.Tests.{leb-true, ltb-false, eqb-true, not-false}
use Rattle.arith.proofs.Branches.{and_left, and_right}
use Rattle.cone.specs.table.Table.{trace_row}
use Rattle.cone.proofs.table.Settled.{trace_row-off}
use Rattle.octets.specs.words.Words.{AllBelow}
use Rattle.octets.specs.words.Runs.{runs_size}
use Rattle.octets.proofs.words.Words.{below-take}
use Rattle.octets.proofs.words.Stores.{cut-is}
use Rattle.trace_layout.specs.Records.{Record, bytes_of, exponents, runs_for, shape_ok, laid_at, record_at}
use Rattle.trace_layout.specs.declared.pieces.Shape.{Shape}
use Rattle.std.specs.Prelude.{Some}
use Rattle.trace_layout.specs.pieces.Shapes.{found_at}
use Rattle.trace_layout.proofs.pieces.Shapes.{record_is_laid}
use Rattle.trace_layout.specs.Traces.{known, records_bytes, offsets_from, trace_of}
use Rattle.trace_layout.proofs.Traces.{length-offsets}
use Rattle.trace_layout.specs.declared.pieces.Entry.{Entry}
use Rattle.trace_layout.specs.pieces.Entries.{record_of}
use Rattle.trace.specs.record_writer.Parts.{entry_bytes}
use Rattle.trace.proofs.record_writer.Parts.{entry_is_record}
use Rattle.trace.specs.places.Given.{can_lay}
use Rattle.trace.specs.places.Places.{entry_ok}
use Rattle.trace.specs.entries.Writing.{Left, leave}
use Rattle.trace.specs.seal.Seal.{seal_of}
use Rattle.trace.specs.declared.whole.Walked.{Walked}
use Rattle.trace.specs.whole.Whole.{whole_records, walked_of}
use Rattle.trace.specs.value.Recorded.{recorded_of, refused_record}
use Rattle.trace.specs.recording.Recording.{put_down, put_rows, record_at_of, whole_front, sealed_front, seal_rows}
use Rattle.trace.proofs.entries.Judged.{same_judge, entry-size, record_size}
use Rattle.trace.proofs.seal.Sealing.{sealed, length-trace}
use Rattle.trace.proofs.whole.Whole.{whole_few, whole_prefix, whole_inside}

no_middle : (a b : Bool) → (a && false && b) ≡ false
no_middle true b = refl
no_middle false b = refl

-- ---- a record put at a place

module _ (bs : List ℕ) (at e : ℕ) (x : Entry) (exps dz ds z s : List Float)
    (exponent_places : shape_ok x.kind x.dim1 x.dim2 x.flag ≡ true → length exps ≡ exponents x.kind x.dim1) where
  abbrev given : Record
  given = record_of x exps dz ds z s

  abbrev size : ℕ
  size = runs_size (runs_for e x.kind x.dim1 x.dim2 x.flag)

  abbrev judged : ℕ
  judged =
      trace_row (not (known e && entry_ok e x (length dz) (length ds) (length z) (length s) && leb at (length bs)))
      (ltb (length bs) (at + size))

  code_by : (l : Bool) → can_lay e given ≡ l → judged ≡ put_rows bs at e given
  unfolding put_rows trace_row record_of
  code_by false h = rw (same_judge e x exps dz ds z s, h, no_middle (known e) (leb at (length bs)))
  code_by true h = rw (same_judge e x exps dz ds z s, h, record_size e x exps dz ds z s exponent_places h)

  -- the code's number is the definition's
  pub put_code : judged ≡ put_rows bs at e given
  put_code = code_by (can_lay e given) refl

  -- what number 0 says
  pub record PutFree : Type 0 where
    pub edition : known e ≡ true
    pub laid : can_lay e given ≡ true
    pub room : at + length (bytes_of e given) ≤ length bs

  pub put_free : put_rows bs at e given ≡ 0 → PutFree
  unfolding put_rows
  put_free h =
      let off = trace_row-off _ _ h in
      let good = not-false (known e && can_lay e given && leb at (length bs)) off.0 in
      let both = and_left (known e && can_lay e given) (leb at (length bs)) good in
      record {
        edition = and_left (known e) (can_lay e given) both;
        laid = and_right (known e) (can_lay e given) both;
        room = ltb-false (length bs) (at + length (bytes_of e given)) off.1;
      }

  module _ (free : PutFree) where
    pub bytes_size : length (bytes_of e given) ≡ size
    unfolding record_of
    bytes_size = record_size e x exps dz ds z s exponent_places free.laid

    pub put_size : length (entry_bytes e x exps dz ds z s) ≡ size
    put_size = entry-size e x exps dz ds z s exponent_places free.laid

    pub put_done : (last : List ℕ) → last ≡ sets bs at (entry_bytes e x exps dz ds z s)
        → ◌≡◌ {A = Left} (record { answer = record { code = 0; length = at + size }; bytes = last }) (put_down bs at (bytes_of e given))
    put_done last h =
        let stored : last ≡ take at bs ++ bytes_of e given ++ drop (at + length (bytes_of e given)) bs =
        h ∙ ap (sets bs at) (entry_is_record e x exps dz ds z s) ∙ sets-eq (bytes_of e given) bs at free.room in
        ap (λ (k : ℕ). record { answer = record { code = 0; length = at + k }; bytes = last }) (sym bytes_size)
        ∙ ap (λ (l : List ℕ). record { answer = record { code = 0; length = at + length (bytes_of e given) }; bytes = l }) stored

-- ---- the record at a place

module _ (bs : List ℕ) (e at : ℕ) where
  pub unknown : known e ≡ false → refused_record 9 ≡ record_at_of bs e at
  unfolding record_at_of
  unknown h = rw h

  pub none_there : known e ≡ true → laid_at e (drop at bs) ≡ false → refused_record 9 ≡ record_at_of bs e at
  unfolding record_at_of
  none_there h none = rw (h, none)

  module _ (t : List ℕ) (part : t ≡ drop at bs) (shape : Shape) (found : found_at e (drop at bs) ≡ Some shape) where
    laid : laid_at e (drop at bs) ≡ true
    laid = (record_is_laid e (drop at bs) shape found).0

    pub one_there : known e ≡ true → recorded_of e at (record_at e t) ≡ record_at_of bs e at
    unfolding record_at_of
    one_there h = rw (part, h, laid)

-- ---- records that are sealed

module _ (bs : List ℕ) (used e : ℕ) (bytes : AllBelow 256 bs) (w : Walked) (told : w ≡ walked_of e (take used bs)) where
  abbrev rs : List Record
  rs = whole_records e (take used bs)

  abbrev n : ℕ
  n = w.end + 8 * w.count + 20

  count-is : w.count ≡ length rs
  unfolding walked_of
  count-is = ap (λ (x : Walked). x.count) told

  end_is : w.end ≡ length (records_bytes e rs)
  unfolding walked_of
  end_is = ap (λ (x : Walked). x.end) told

  pub few : w.count ≤ 4096
  few = omega (arith, count-is, whole_few e 4096 (take used bs))

  front_bytes : AllBelow 256 (take used bs)
  front_bytes = below-take 256 used bs bytes

  pub walked_inside : w.end ≤ length (take used bs)
  walked_inside = omega (arith, end_is, whole_inside e 4096 (take used bs) front_bytes)

  length-is : n ≡ length (sealed_front bs used e)
  length-is = omega (arith, count-is, end_is, length-trace e rs)

  abbrev judged_seal : ℕ
  judged_seal = trace_row (not (known e && (leb used (length bs) && eqb w.end used))) (ltb (length bs) n)

  pub seal_code : judged_seal ≡ seal_rows bs used e
  unfolding seal_rows whole_front
  seal_code = rw (length-is, end_is)

  pub record SealFree : Type 0 where
    pub inside : used ≤ length bs
    pub whole : w.end ≡ used
    pub room : n ≤ length bs

  pub seal_free : seal_rows bs used e ≡ 0 → SealFree
  unfolding seal_rows whole_front
  seal_free h =
      let off = trace_row-off _ _ h in
      let b = leb used (length bs) in
      let c = eqb (length (records_bytes e rs)) used in
      let good = and_right (known e) (b && c) (not-false (known e && (b && c)) off.0) in
      let ends : length (records_bytes e rs) ≡ used = eqb-true _ _ (and_right b c good) in
      record {
        inside = leb-true _ _ (and_left b c good);
        whole = end_is ∙ ends;
        room = omega (arith, ltb-false (length bs) (length (sealed_front bs used e)) off.1, length-is);
      }

  module _ (free : SealFree) where
    -- the records are the first bytes
    records_are : records_bytes e rs ≡ take used bs
    records_are =
        whole_prefix e 4096 (take used bs) front_bytes
        ∙ take_all (length (records_bytes e rs)) (take used bs) (omega (arith, end_is, free.whole, length-take used bs))

    abbrev tail : List ℕ
    tail = seal_of e used (offsets_from e 0 rs)

    is-trace : take used bs ++ tail ≡ trace_of e rs
    is-trace =
        ap (λ (x : List ℕ). x ++ tail) (sym records_are)
        ∙ ap (λ (k : ℕ). records_bytes e rs ++ seal_of e k (offsets_from e 0 rs)) (sym free.whole ∙ end_is)
        ∙ sealed e rs

    tail_length : used + length tail ≡ length (trace_of e rs)
    tail_length =
        omega (arith, ap length is-trace, length-append (take used bs) tail, length-take-le used bs free.inside)

    -- list and trailer, stored behind the records
    pub seal_done : (row starts out : List ℕ) → length row ≡ 4096 → starts ≡ sets row 0 (offsets_from e 0 rs)
        → out ≡ sets bs used (seal_of e used (take w.count starts))
        → ◌≡◌ {A = Left} (record { answer = record { code = 0; length = n }; bytes = out }) (leave bs (sealed_front bs used e))
    seal_done row starts out places wrote put =
        let offsets = offsets_from e 0 rs in
        let cut : take w.count starts ≡ offsets =
        cut-is row offsets starts w.count wrote (count-is ∙ sym (length-offsets e 0 rs))
        (omega (arith, length-offsets e 0 rs, count-is, few, places)) in
        let fits : used + length tail ≤ length bs = omega (arith, tail_length, length-is, free.room) in
        let stored : out ≡ trace_of e rs ++ drop (length (trace_of e rs)) bs =
        put ∙ ap (λ (x : List ℕ). sets bs used (seal_of e used x)) cut ∙ sets-eq tail bs used fits
        ∙ ap (λ (x : List ℕ). x ++ drop (used + length tail) bs) is-trace
        ∙ ap (λ (k : ℕ). trace_of e rs ++ drop k bs) tail_length in
        rw (length-is, stored)
