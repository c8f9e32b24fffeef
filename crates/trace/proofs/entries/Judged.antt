-- What the code judges by numbers is what the definition judges by records, and what it stores is the longer trace. Assumes nothing.
use mathlib.Core.Path.{◌≡◌, refl, sym, ap, ◌∙◌}
use mathlib.Core.Bool.{Bool, true, false, ◌&&◌, ◌||◌}
use mathlib.Core.List.{List, ◌++◌}
use Prim.Native.Nat.{ℕ, ◌+◌, ◌*◌, ◌≤◌, ◌<◌}
use lib.Dec.{eqb, leb, ltb}
use lib.Ieee.{Float}
use lib.ListN.{length, take, drop}
use borrow.Author.Tests.{leb-true, ltb-true, eqb-true, not-false}
use native.Mathlib.Omega.{arith}
use Rattle.arith.proofs.Branches.{and_left, and_right}
use Rattle.octets.specs.words.Words.{AllBelow}
use Rattle.octets.specs.words.Runs.{runs_size}
use Rattle.trace_layout.specs.Records.{Record, bytes_of, size_in, runs_for, has_rule, exponents, shape_ok, step_ok}
use Rattle.trace_layout.specs.Traces.{most_records, list_at, count_at, edition_at, good_trace, records_of}
use Rattle.trace.specs.judge.Opening.{open_of}
use Rattle.trace_layout.proofs.Growing.{old-count, old-length, grown-length, grown-stored}
use Rattle.cone.specs.table.Table.{trace_row}
use Rattle.cone.proofs.table.Settled.{trace_row-off}
use Rattle.trace_layout.specs.declared.pieces.Entry.{Entry}
use Rattle.trace_layout.specs.declared.pieces.Place.{Place}
use Rattle.trace_layout.specs.pieces.Entries.{record_of}
use Rattle.trace.specs.record_writer.Parts.{entry_bytes}
use Rattle.trace.specs.writer.Entries.{insert_of}
use Rattle.trace.proofs.record_writer.Bits.{length-bits_of}
use Rattle.trace.proofs.record_writer.Parts.{entry_is_record, length-entry}
use Rattle.trace.specs.places.Given.{can_lay}
use Rattle.trace.specs.entries.Writing.{good_front, longer, append_rows}
use Rattle.trace.specs.places.Places.{open_front, entry_ok, has_room, place_with, place_for}

-- ---- the trace at the front

front_good : (bs : List ℕ) (used : ℕ) → good_front bs used ≡ true
    → open_front bs used ≡ record {
      code =
          0;
      edition = edition_at (take used bs);
      count = count_at (take used bs);
      list = list_at (take used bs);
    }
unfolding open_front open_of
front_good bs used h =
    rw (and_left (leb used (length bs)) (good_trace (take used bs)) h, and_right (leb used (length bs)) (good_trace (take used bs)) h)

front_bad_with : (bs : List ℕ) (used : ℕ) (a : Bool) → leb used (length bs) ≡ a → good_front bs used ≡ false → (open_front bs used).code ≡ 9
unfolding open_front open_of
front_bad_with bs used false e h = rw e
front_bad_with bs used true e h = let bad : good_trace (take used bs) ≡ false = simp e at h in rw (e, bad)

front_bad : (bs : List ℕ) (used : ℕ) → good_front bs used ≡ false → (open_front bs used).code ≡ 9
front_bad bs used h = front_bad_with bs used (leb used (length bs)) refl h

-- ---- a record that can be laid out has its length

module _ (e : ℕ) (x : Entry) (exps dz ds z s : List Float) where
  abbrev r : Record
  r = record_of x exps dz ds z s

  pub same_judge : entry_ok e x (length dz) (length ds) (length z) (length s) ≡ can_lay e r
  unfolding entry_ok can_lay record_of
  same_judge = rw (length-bits_of dz, length-bits_of ds, length-bits_of z, length-bits_of s)

  pub record CanLay : Type 0 where
    pub shape : shape_ok x.kind x.dim1 x.dim2 x.flag ≡ true
    pub ruled : (has_rule e || eqb x.rule 1) ≡ true
    pub dz_length : length dz ≡ x.dim1 + x.dim2
    pub ds_length : length ds ≡ x.dim1 + x.dim2
    pub z_length : length z ≡ x.dim1 + x.dim2
    pub s_length : length s ≡ x.dim1 + x.dim2
    pub dualstep : step_ok x.dualstep ≡ true
    pub primalstep : step_ok x.primalstep ≡ true

  pub can_lay_lem : can_lay e r ≡ true → CanLay
  unfolding entry_ok
  can_lay_lem h =
      let n = x.dim1 + x.dim2 in
      let a = shape_ok x.kind x.dim1 x.dim2 x.flag in
      let b = has_rule e || eqb x.rule 1 in
      let c = eqb (length dz) n in
      let d = eqb (length ds) n in
      let f = eqb (length z) n in
      let g = eqb (length s) n in
      let i = step_ok x.dualstep in
      let j = step_ok x.primalstep in
      let to_j = same_judge ∙ h in
      let to_i = and_left (a && b && c && d && f && g && i) j to_j in
      let to_g = and_left (a && b && c && d && f && g) i to_i in
      let to_f = and_left (a && b && c && d && f) g to_g in
      let to_d = and_left (a && b && c && d) f to_f in
      let to_c = and_left (a && b && c) d to_d in
      let to_b = and_left (a && b) c to_c in
      record {
        shape = and_left a b to_b;
        ruled = and_right a b to_b;
        dz_length = eqb-true _ _ (and_right (a && b) c to_c);
        ds_length = eqb-true _ _ (and_right (a && b && c) d to_d);
        z_length = eqb-true _ _ (and_right (a && b && c && d) f to_f);
        s_length = eqb-true _ _ (and_right (a && b && c && d && f) g to_g);
        dualstep = and_right (a && b && c && d && f && g) i to_i;
        primalstep = and_right (a && b && c && d && f && g && i) j to_j;
      }

  module _ (exponent_places : shape_ok x.kind x.dim1 x.dim2 x.flag ≡ true → length exps ≡ exponents x.kind x.dim1)
      (laid : can_lay e r ≡ true) where
    pub entry-size : length (entry_bytes e x exps dz ds z s) ≡ runs_size (runs_for e x.kind x.dim1 x.dim2 x.flag)
    unfolding runs_for runs_size
    entry-size =
        let p = can_lay_lem laid in
        omega (arith, length-entry e x exps dz ds z s, exponent_places p.shape, p.dz_length, p.ds_length, p.z_length, p.s_length)

    pub record_size : length (bytes_of e r) ≡ size_in e r
    unfolding record_of
    record_size = ap length (sym (entry_is_record e x exps dz ds z s)) ∙ entry-size

-- ---- the number that refuses, and the place

module _ (bs : List ℕ) (used : ℕ) (bytes : AllBelow 256 bs) (x : Entry) (exps dz ds z s : List Float)
    (exponent_places : shape_ok x.kind x.dim1 x.dim2 x.flag ≡ true → length exps ≡ exponents x.kind x.dim1) where
  abbrev old : List ℕ
  old = take used bs

  abbrev given : Record
  given = record_of x exps dz ds z s

  abbrev place : Place
  place = place_for bs used x (length dz) (length ds) (length z) (length s)

  abbrev size : ℕ
  size = runs_size (runs_for (edition_at old) x.kind x.dim1 x.dim2 x.flag)

  module _ (good : good_front bs used ≡ true) where
    pub inside : used ≤ length bs
    inside = leb-true used (length bs) (and_left (leb used (length bs)) (good_trace old) good)

    pub good_old : good_trace old ≡ true
    good_old = and_right (leb used (length bs)) (good_trace old) good

    pub longer-length : can_lay (edition_at old) given ≡ true → length (longer bs used given) ≡ used + size + 8
    unfolding longer record_of
    longer-length laid =
        grown-length bs used bytes inside good_old given (record_size (edition_at old) x exps dz ds z s exponent_places laid)

    pub longer-stored : can_lay (edition_at old) given ≡ true → used + size + 8 ≤ length bs
        → insert_of bs place (entry_bytes (edition_at old) x exps dz ds z s)
        ≡ longer bs used given ++ drop (length (longer bs used given)) bs
    unfolding insert_of longer place_with record_of
    longer-stored laid room =
        rw (front_good bs used good, entry_is_record (edition_at old) x exps dz ds z s)
        (grown-stored bs used bytes inside good_old given (record_size (edition_at old) x exps dz ds z s exponent_places laid) room)

    same_rows : (l : Bool) → can_lay (edition_at old) given ≡ l → place.code ≡ append_rows bs used given
    unfolding append_rows place_with trace_row has_room
    same_rows false h = rw (front_good bs used good, good, same_judge (edition_at old) x exps dz ds z s, h)
    same_rows true h =
        rw (
          front_good bs used good,
          good,
          same_judge (edition_at old) x exps dz ds z s,
          h,
          longer-length h,
          old-count bs used bytes inside good_old,
        )

  code_by : (g : Bool) → good_front bs used ≡ g → place.code ≡ append_rows bs used given
  unfolding append_rows place_with trace_row
  code_by true g = same_rows g (can_lay (edition_at old) given) refl
  code_by false g = rw (front_bad bs used g, g)

  -- the code's number is the definition's
  pub same_code : place.code ≡ append_rows bs used given
  same_code = code_by (good_front bs used) refl

  -- what number 0 says
  pub record Free : Type 0 where
    pub good : good_front bs used ≡ true
    pub laid : can_lay (edition_at old) given ≡ true
    pub few : count_at old < most_records
    pub room : used + size + 8 ≤ length bs
    pub used_length : list_at old + 8 * count_at old + 20 ≡ used

  pub free : append_rows bs used given ≡ 0 → Free
  unfolding append_rows
  free h =
      let off = trace_row-off _ _ h in
      let judged = not-false (good_front bs used && can_lay (edition_at old) given) off.0 in
      let good = and_left (good_front bs used) (can_lay (edition_at old) given) judged in
      let laid = and_right (good_front bs used) (can_lay (edition_at old) given) judged in
      let fits = not-false (ltb (length (records_of old)) most_records && leb (length (longer bs used given)) (length bs)) off.1 in
      let few : length (records_of old) < most_records =
      ltb-true _ _ (and_left (ltb (length (records_of old)) most_records) (leb (length (longer bs used given)) (length bs)) fits) in
      let room : length (longer bs used given) ≤ length bs =
      leb-true _ _ (and_right (ltb (length (records_of old)) most_records) (leb (length (longer bs used given)) (length bs)) fits) in
      record {
        good = good;
        laid = laid;
        few = omega (arith, few, old-count bs used bytes (inside good) (good_old good));
        room = omega (arith, room, longer-length good laid);
        used_length = old-length bs used bytes (inside good) (good_old good);
      }

  module _ (good : good_front bs used ≡ true) where
    pub place_edition : place.edition ≡ edition_at old
    unfolding place_with
    place_edition = rw (front_good bs used good)

    pub place_count : place.count ≡ count_at old
    unfolding place_with
    place_count = rw (front_good bs used good)

    pub place_list : place.list ≡ list_at old
    unfolding place_with
    place_list = rw (front_good bs used good)

    pub place_size : place.size ≡ size
    unfolding place_with
    place_size = rw (front_good bs used good)
