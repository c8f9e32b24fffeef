-- A good trace is the bytes of its edition and its records, and the bytes of any records are a good trace of them. Assumes nothing.
use mathlib.Core.Path.{◌≡◌, refl, sym, ap, ◌∙◌}
use Prim.Native.Nat.{ℕ, zero, suc, ◌+◌, ◌*◌, ◌-◌, ◌^◌, ◌<◌, ◌≤◌}
use mathlib.Core.Bool.{true, ◌&&◌}
use mathlib.Core.List.{List, [], ◌∷◌, ◌++◌, append_assoc, append-nil}
use native.Mathlib.Omega.{arith}
use lib.Dec.{eqb, leb, leb→le}
use lib.ListN.{length, take, drop, length-append, length-drop, take-append-drop}
use lib.Seq.{drop_at, take_at, take-add, drop-drop, take_all, length-take-le}
use borrow.Author.Tests.{eq-eqb, eqb-true, leb-true, le-leb}
use Rattle.arith.proofs.Branches.{and_left, and_right}
use Rattle.octets.specs.words.Words.{le, spelled, word_at, row_bytes, row_of, AllBelow}
use Rattle.octets.specs.words.Runs.{runs_size, runs_bytes, runs_of, Suits}
use Rattle.octets.proofs.words.Words.{length-le, spelled-le, le-spelled, length-row_bytes, row_bytes-below, below-append, below-take}
use Rattle.octets.proofs.words.Words.{below-drop}
use Rattle.octets.proofs.words.Runs.{number_at, runs_bytes-below, runs_of-runs_bytes, runs_bytes-runs_of, word_behind}
use Rattle.trace_layout.specs.Records.{Record, size_in, one, bytes_of, only, size_at, laid_at}
use Rattle.trace_layout.specs.Traces.{back_mark, most_records, newest_edition, known, records_bytes, offsets_from, trailer_runs, trailer_of}
use Rattle.trace_layout.specs.Traces.{trace_of, AllLaid, list_at, count_at, edition_at, trailer_ok, walks, good_trace, records_in}
use Rattle.trace_layout.specs.Traces.{records_of}
use Rattle.trace_layout.proofs.Records.{bounds, size-most, size-least, size_back, record_back, laid_back}
use Rattle.trace_layout.proofs.Records.{length-bytes_of, bytes_read, laid_read}
use Rattle.trace_layout.proofs.Records.{sized-read, size-read}

-- ---- the walk over records that were written

pub length-records_bytes : (e : ℕ) (rs : List Record) → AllLaid e rs → length (records_bytes e rs) ≤ 2380 * length rs
unfolding records_bytes AllLaid
length-records_bytes e [] h = omega arith
length-records_bytes e (r ∷ rs) h =
    let size : size_in e r ≤ 2380 =
    size-most e r.kind r.dim1 r.dim2 r.flag (bounds r.kind r.dim1 r.dim2 r.flag h.0.shape) in
    simp (length-append, length-bytes_of e r h.0 h.1 []) (omega (arith, length-records_bytes e rs h.2))

-- a record has at least 56 bytes
pub records_least : (e : ℕ) (rs : List Record) → AllLaid e rs → 56 * length rs ≤ length (records_bytes e rs)
unfolding records_bytes AllLaid
records_least e [] h = omega arith
records_least e (r ∷ rs) h =
    let size : 56 ≤ size_in e r = size-least e r.kind r.dim1 r.dim2 r.flag in
    simp (length-append, length-bytes_of e r h.0 h.1 []) (omega (arith, records_least e rs h.2))

pub length-offsets : (e at : ℕ) (rs : List Record) → length (offsets_from e at rs) ≡ length rs
unfolding offsets_from
length-offsets e at [] = refl
length-offsets e at (r ∷ rs) = ap suc (length-offsets e (at + size_in e r) rs)

first_entry : (x : ℕ) (xs rest : List ℕ) → x < 256 ^ 8 → word_at 8 (row_bytes 8 (x ∷ xs) ++ rest) 0 ≡ x
unfolding word_at row_bytes
first_entry x xs rest h = rw (append_assoc (le 8 x), take_at (le 8 x) (row_bytes 8 xs ++ rest) 8 (length-le 8 x)) (spelled-le 8 x h)

entries_behind : (x : ℕ) (xs rest : List ℕ) → drop 8 (row_bytes 8 (x ∷ xs) ++ rest) ≡ row_bytes 8 xs ++ rest
unfolding row_bytes
entries_behind x xs rest = rw (append_assoc (le 8 x)) (drop_at (le 8 x) (row_bytes 8 xs ++ rest) 8 (length-le 8 x))

module _ (e : ℕ) (rest : List ℕ) where
  walks-written : (at : ℕ) (rs : List Record) → AllLaid e rs → at + length (records_bytes e rs) < 256 ^ 8
      → walks e (length rs) at (records_bytes e rs) (row_bytes 8 (offsets_from e at rs) ++ rest) ≡ true
  unfolding walks records_bytes offsets_from AllLaid
  walks-written at [] h g = refl
  walks-written at (r ∷ rs) h g =
      let size : length (bytes_of e r) ≡ size_in e r = length-bytes_of e r h.0 h.1 [] in
      let fits : at + (size_in e r + length (records_bytes e rs)) < 256 ^ 8 = simp (length-append, size) at g in
      let here : eqb at at ≡ true = eq-eqb at at refl in
      rw (
        laid_back e r h.0 h.1 (records_bytes e rs),
        size_back e r h.0 h.1 (records_bytes e rs),
        first_entry at (offsets_from e (at + size_in e r) rs) rest (omega arith),
        here,
        entries_behind at (offsets_from e (at + size_in e r) rs) rest,
        drop_at (bytes_of e r) (records_bytes e rs) _ size,
      )
      (walks-written (at + size_in e r) rs h.2 (omega arith))

pub records_written : (e : ℕ) (rs : List Record) → AllLaid e rs → records_in e (length rs) (records_bytes e rs) ≡ rs
unfolding records_in records_bytes AllLaid
records_written e [] h = refl
records_written e (r ∷ rs) h =
    rw (
      size_back e r h.0 h.1 (records_bytes e rs),
      record_back e r h.0 h.1 (records_bytes e rs),
      drop_at (bytes_of e r) (records_bytes e rs) _ (length-bytes_of e r h.0 h.1 []),
      records_written e rs h.2,
    )

-- ---- what is written is a list of bytes

records_below : (e : ℕ) (rs : List Record) → AllBelow 256 (records_bytes e rs)
unfolding records_bytes bytes_of AllBelow
records_below e [] = tt
records_below e (r ∷ rs) = below-append 256 (bytes_of e r) (records_bytes e rs) (runs_bytes-below _ _) (records_below e rs)

pub trace-below : (e : ℕ) (rs : List Record) → AllBelow 256 (trace_of e rs)
unfolding trace_of trailer_of
trace-below e rs =
    below-append 256 _ _ (records_below e rs)
    (below-append 256 _ _ (row_bytes-below 8 (offsets_from e 0 rs)) (runs_bytes-below trailer_runs _))

-- ---- the trailer that was written

pub length_trailer : (list count e : ℕ) → length (trailer_of list count e) ≡ 20
unfolding trailer_of runs_bytes row_bytes le
length_trailer list count e = refl

module _ (front : List ℕ) (list count e : ℕ) (list-fits : list < 256 ^ 8) (count_fits : count < 256 ^ 4) (e-fits : e < 256 ^ 4) where
  abbrev C : List ℕ
  C = trailer_of list count e

  abbrev whole : List ℕ
  whole = front ++ C

  trailer_rows : runs_of trailer_runs C ≡ one list ∷ one count ∷ one e ∷ one back_mark ∷ []
  unfolding trailer_of Suits AllBelow
  trailer_rows =
      rw append-nil at (runs_of-runs_bytes trailer_runs (one list ∷ one count ∷ one e ∷ one back_mark ∷ []) []
      (refl, (list-fits, tt), (refl, (count_fits, tt), (refl, (e-fits, tt), (refl, (leb→le _ _ tt, tt), tt)))))

  pub length_whole : length whole ≡ length front + 20
  length_whole = simp (length-append, length_trailer)

  -- a place k bytes before the end is 20 - k bytes into the trailer
  in_trailer : (w k : ℕ) → k ≤ 20 → word_at w whole (length whole - k) ≡ word_at w C (20 - k)
  in_trailer w k h =
      let place : length whole - k ≡ length front + (20 - k) = omega (arith, length_whole) in
      ap (word_at w whole) place ∙ word_behind w whole (length front) (20 - k)
      ∙ ap (λ (l : List ℕ). word_at w l (20 - k)) (drop_at front C (length front) refl)

  pub list_back : list_at whole ≡ list
  unfolding runs_size
  list_back =
      in_trailer 8 20 (omega arith) ∙ number_at trailer_runs C 0 0 (omega arith) ∙ ap (λ (rows : List (List ℕ)). only rows 0) trailer_rows

  pub count_back : count_at whole ≡ count
  unfolding runs_size
  count_back =
      in_trailer 4 12 (omega arith) ∙ number_at trailer_runs C 1 0 (omega arith) ∙ ap (λ (rows : List (List ℕ)). only rows 1) trailer_rows

  pub edition_back : edition_at whole ≡ e
  unfolding runs_size
  edition_back =
      in_trailer 4 8 (omega arith) ∙ number_at trailer_runs C 2 0 (omega arith) ∙ ap (λ (rows : List (List ℕ)). only rows 2) trailer_rows

  pub mark_back : word_at 4 whole (length whole - 4) ≡ back_mark
  unfolding runs_size
  mark_back =
      in_trailer 4 4 (omega arith) ∙ number_at trailer_runs C 3 0 (omega arith) ∙ ap (λ (rows : List (List ℕ)). only rows 3) trailer_rows

  pub trailer_back : known e ≡ true → count ≤ most_records → length front ≡ list + 8 * count → trailer_ok whole ≡ true
  unfolding trailer_ok
  trailer_back k m p =
      let enough : leb 20 (length whole) ≡ true = le-leb 20 (length whole) (omega (arith, length_whole)) in
      let few : leb count most_records ≡ true = le-leb count most_records m in
      let end : eqb (list + 8 * count + 20) (length whole) ≡ true =
      eq-eqb (list + 8 * count + 20) (length whole) (omega (arith, length_whole)) in
      let mark : eqb back_mark back_mark ≡ true = refl in
      rw (mark_back, edition_back, count_back, list_back, enough, mark, k, few, end)

-- ---- a trace that was written is good, and its records are read back the same

known_fits : (e : ℕ) → known e ≡ true → e < 256 ^ 4
unfolding known
known_fits e h = omega (arith, leb-true e newest_edition (and_right (leb 1 e) (leb e newest_edition) h))

module _ (e : ℕ) (rs : List Record) (edition : known e ≡ true) (few : length rs ≤ most_records) (laid : AllLaid e rs) where
  abbrev body : List ℕ
  body = records_bytes e rs

  abbrev entries : List ℕ
  entries = row_bytes 8 (offsets_from e 0 rs)

  abbrev trace : List ℕ
  trace = (body ++ entries) ++ trailer_of (length body) (length rs) e

  regrouped : trace_of e rs ≡ trace
  unfolding trace_of
  regrouped = sym (append_assoc body entries (trailer_of (length body) (length rs) e))

  pub body_fits : length body < 256 ^ 8
  body_fits = omega (arith, length-records_bytes e rs laid)

  front_length : length (body ++ entries) ≡ length body + 8 * length rs
  front_length = simp (length-append, length-row_bytes, length-offsets)

  pub list_written : list_at (trace_of e rs) ≡ length body
  list_written = rw regrouped (list_back (body ++ entries) (length body) (length rs) e body_fits (omega arith) (known_fits e edition))

  pub count-written : count_at (trace_of e rs) ≡ length rs
  count-written = rw regrouped (count_back (body ++ entries) (length body) (length rs) e body_fits (omega arith) (known_fits e edition))

  pub edition-written : edition_at (trace_of e rs) ≡ e
  edition-written = rw regrouped (edition_back (body ++ entries) (length body) (length rs) e body_fits (omega arith) (known_fits e edition))

  pub trailer_written : trailer_ok (trace_of e rs) ≡ true
  trailer_written =
      rw regrouped (trailer_back (body ++ entries) (length body) (length rs) e body_fits (omega arith)
      (known_fits e edition) edition few front_length)

  pub good-written : good_trace (trace_of e rs) ≡ true
  unfolding good_trace trace_of
  good-written =
      let tail = entries ++ trailer_of (length body) (length rs) e in
      rw (
        trailer_written,
        list_written,
        count-written,
        edition-written,
        take_at body tail (length body) refl,
        drop_at body tail (length body) refl,
      )
      (walks-written e (trailer_of (length body) (length rs) e) 0 rs laid (omega (arith, body_fits)))

  pub read-written : records_of (trace_of e rs) ≡ rs
  unfolding records_of trace_of
  read-written =
      let tail = entries ++ trailer_of (length body) (length rs) e in
      rw (list_written, count-written, edition-written, take_at body tail (length body) refl) (records_written e rs laid)

-- ---- a good trace was written so

pub record Walked (e n at : ℕ) (t entries : List ℕ) : Type 0 where
  pub laid : AllLaid e (records_in e n t)
  pub count : length (records_in e n t) ≡ n
  pub bytes : records_bytes e (records_in e n t) ≡ t
  pub offsets : row_bytes 8 (offsets_from e at (records_in e n t)) ≡ take (8 * n) entries

nothing_left : (t : List ℕ) → eqb (length t) 0 ≡ true → [] ≡ t
nothing_left [] h = refl
nothing_left (x ∷ t) h = absurd (omega (arith, eqb-true (suc (length t)) 0 h))

first_read : (entries : List ℕ) (at : ℕ) → AllBelow 256 entries → 8 ≤ length entries → word_at 8 entries 0 ≡ at → le 8 at ≡ take 8 entries
unfolding word_at
first_read entries at bytes h p =
    ap (le 8) (sym p) ∙ ap (λ (k : ℕ). le k (spelled (take 8 entries))) (sym (length-take-le 8 entries h))
    ∙ le-spelled (take 8 entries) (below-take 256 8 entries bytes)

pub walks-read : (e n at : ℕ) (t entries : List ℕ) → AllBelow 256 t → AllBelow 256 entries → 8 * n ≤ length entries → walks e n at t entries
    ≡ true → Walked e n at t entries
unfolding walks records_in records_bytes offsets_from AllLaid row_bytes
walks-read e zero at t entries ht hs room h = record { laid = tt; count = refl; bytes = nothing_left t h; offsets = refl }
walks-read e (suc n) at t entries ht hs room h =
    let size = size_at e t in
    let later = walks e n (at + size) (drop size t) (drop 8 entries) in
    let both = and_left (laid_at e t && eqb (word_at 8 entries 0) at) later h in
    let laid = and_left (laid_at e t) (eqb (word_at 8 entries 0) at) both in
    let here = eqb-true (word_at 8 entries 0) at (and_right (laid_at e t) (eqb (word_at 8 entries 0) at) both) in
    let behind =
    walks-read e n (at + size) (drop size t) (drop 8 entries) (below-drop 256 size t ht) (below-drop 256 8 entries hs)
    (simp length-drop (omega arith)) (and_right (laid_at e t && eqb (word_at 8 entries 0) at) later h) in
    let turns : 8 * suc n ≡ 8 + 8 * n = omega arith in
    record {
      laid = (laid_read e t ht laid, sized-read e t ht laid, behind.laid);
      count = ap suc behind.count;
      bytes = rw (bytes_read e t ht laid, behind.bytes) (take-append-drop size t);
      offsets = rw (turns, take-add 8 (8 * n) entries, first_read entries at hs (omega arith) here, size-read e t ht laid, behind.offsets);
    }

-- twenty bytes are the trailer of their numbers
trailer_read : (c : List ℕ) → AllBelow 256 c → length c ≡ 20 → word_at 4 c 16 ≡ back_mark
    → trailer_of (word_at 8 c 0) (word_at 4 c 8) (word_at 4 c 12) ≡ c
unfolding trailer_of runs_of row_of runs_size
trailer_read c bytes h mark =
    let rows = runs_of trailer_runs c in
    let written : runs_bytes trailer_runs rows ≡ c = runs_bytes-runs_of trailer_runs c bytes (omega arith) ∙ take_all 20 c (omega arith) in
    rw (
      ← mark,
      number_at trailer_runs c 0 0 (omega arith),
      number_at trailer_runs c 1 0 (omega arith),
      number_at trailer_runs c 2 0 (omega arith),
      number_at trailer_runs c 3 0 (omega arith),
    ) written

-- the tests of `trailer_ok`
pub record Ends (bs : List ℕ) : Type 0 where
  pub enough : 20 ≤ length bs
  pub mark : word_at 4 bs (length bs - 4) ≡ back_mark
  pub edition : known (edition_at bs) ≡ true
  pub few : count_at bs ≤ most_records
  pub list : list_at bs + 8 * count_at bs + 20 ≡ length bs

pub ends : (bs : List ℕ) → trailer_ok bs ≡ true → Ends bs
unfolding trailer_ok
ends bs h =
    let a = leb 20 (length bs) in
    let b = eqb (word_at 4 bs (length bs - 4)) back_mark in
    let c = known (edition_at bs) in
    let d = leb (count_at bs) most_records in
    let f = eqb (list_at bs + 8 * count_at bs + 20) (length bs) in
    let to_d = and_left (a && b && c && d) f h in
    let to_c = and_left (a && b && c) d to_d in
    let to_b = and_left (a && b) c to_c in
    record {
      enough = leb-true 20 (length bs) (and_left a b to_b);
      mark = eqb-true _ _ (and_right a b to_b);
      edition = and_right (a && b) c to_c;
      few = leb-true _ _ (and_right (a && b && c) d to_d);
      list = eqb-true _ _ (and_right (a && b && c && d) f h);
    }

module _ (bs : List ℕ) (bytes : AllBelow 256 bs) (good : good_trace bs ≡ true) where
  abbrev e : ℕ
  e = edition_at bs

  abbrev n : ℕ
  n = count_at bs

  abbrev rs : List Record
  rs = records_of bs

  pub good_ends : Ends bs
  unfolding good_trace
  good_ends = ends bs (and_left (trailer_ok bs) (walks e n 0 (take (list_at bs) bs) (drop (list_at bs) bs)) good)

  walked : Walked e n 0 (take (list_at bs) bs) (drop (list_at bs) bs)
  unfolding good_trace
  walked =
      walks-read e n 0 (take (list_at bs) bs) (drop (list_at bs) bs) (below-take 256 (list_at bs) bs bytes)
      (below-drop 256 (list_at bs) bs bytes)
      (simp length-drop (omega (arith, good_ends.list)))
      (and_right (trailer_ok bs) (walks e n 0 (take (list_at bs) bs) (drop (list_at bs) bs)) good)

  -- a place k bytes before the end
  from_end : (w k : ℕ) → k ≤ 20 → word_at w bs (length bs - k) ≡ word_at w (drop (length bs - 20) bs) (20 - k)
  from_end w k h =
      let few = good_ends.enough in
      let place : length bs - k ≡ length bs - 20 + (20 - k) = omega arith in
      ap (word_at w bs) place ∙ word_behind w bs (length bs - 20) (20 - k)

  -- the last 20 bytes
  last_twenty : trailer_of (list_at bs) n e ≡ drop (8 * n) (drop (list_at bs) bs)
  last_twenty =
      let c = drop (length bs - 20) bs in
      let few = good_ends.enough in
      let size : length c ≡ 20 = simp length-drop (omega arith) in
      let place : list_at bs + 8 * n ≡ length bs - 20 = omega (arith, good_ends.list) in
      rw (drop-drop (8 * n) (list_at bs) bs, place, from_end 8 20 (omega arith), from_end 4 12 (omega arith), from_end 4 8 (omega arith))
      (trailer_read c (below-drop 256 (length bs - 20) bs bytes) size (sym (from_end 4 4 (omega arith)) ∙ good_ends.mark))

  pub good_laid : AllLaid e rs
  unfolding records_of
  good_laid = walked.laid

  pub good-count : length rs ≡ n
  unfolding records_of
  good-count = walked.count

  pub good_is_written : bs ≡ trace_of e rs
  unfolding trace_of records_of
  good_is_written =
      let list = list_at bs in
      let start : length (records_bytes e (records_in e n (take list bs))) ≡ list =
      ap length walked.bytes ∙ length-take-le list bs (omega (arith, good_ends.list)) in
      sym
      (rw (start, walked.bytes, walked.offsets, walked.count, last_twenty, take-append-drop (8 * n) (drop list bs))
      (take-append-drop list bs))
