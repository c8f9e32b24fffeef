-- `append` meets its contract: its number is the definition's, and where that is 0 the slice holds the longer trace. Assumes nothing.
use mathlib.Core.Path.{◌≡◌, sym, ap, ◌∙◌}
use mathlib.Core.Bool.{true}
use mathlib.Core.List.{List, ◌++◌}
use Prim.Native.Nat.{ℕ, ◌+◌, ◌*◌, ◌≤◌, ◌<◌}
use native.Mathlib.Omega.{arith}
use lib.Ieee.{Float}
use lib.ListN.{length, take, drop}
use lib.Seq.{length-take-le}
use Rattle.octets.specs.words.Words.{AllBelow}
use Rattle.octets.proofs.words.Words.{below_of_places}
use Rattle.trace_layout.specs.Records.{Record, exponents, shape_ok, runs_for}
use Rattle.trace_layout.specs.Traces.{most_records, edition_at, count_at, list_at}
use Rattle.octets.specs.words.Runs.{runs_size}
use Rattle.trace_layout.proofs.Records.{bounds, exponents-most}
use Rattle.cone.proofs.table.Settled.{refused, done}
use Rattle.trace_layout.specs.declared.pieces.Entry.{Entry}
use Rattle.cone.specs.declared.Cone.{Cone}
use Rattle.cone.specs.declared.Settings.{Settings}
use Rattle.cone.specs.declared.Steps.{Steps}
use Rattle.trace_layout.specs.declared.pieces.Place.{Place}
use Rattle.trace_layout.specs.pieces.Entries.{record_of}
use Rattle.trace.specs.record_writer.Parts.{entry_bytes}
use Rattle.trace.specs.writer.Entries.{insert_of}
use Rattle.trace.specs.places.Given.{entry_of, given_of}
use Rattle.trace.specs.entries.Writing.{leave, longer, append_rows, append_of}
use Rattle.trace.specs.places.Places.{place_for}
use Rattle.trace.specs.entries.Values.{Passed}
use Rattle.trace.proofs.entries.Passing.{fits_true, elements_fit}
use Rattle.trace.proofs.entries.Judged.{Free, free, same_code, longer-stored, longer-length, entry-size, place_edition, place_count}
use Rattle.trace.proofs.entries.Judged.{place_list, place_size}
use borrow.Author.Rules.{rules}
use Rattle.trace.proofs.entries.append.Goals as goal

-- ---- what is known once the place was looked for

module _ (bs : List ℕ) (used : ℕ) (is_bytes : AllBelow 256 bs) (cone : Cone) (flag : ℕ) (settings : Settings) (dz ds z s : List Float)
    (steps : Steps) (places : length cone.exps ≡ 32) (x : Entry) (x_is : x ≡ entry_of cone flag settings steps) (place : Place)
    (found : place ≡ place_for bs used x (length dz) (length ds) (length z) (length s)) where
  abbrev exps : List Float
  exps = take (exponents x.kind x.dim1) cone.exps

  abbrev old : List ℕ
  old = take used bs

  exponent_places : shape_ok x.kind x.dim1 x.dim2 x.flag ≡ true → length exps ≡ exponents x.kind x.dim1
  exponent_places h =
      length-take-le (exponents x.kind x.dim1) cone.exps
      (omega (arith, places, exponents-most x.kind x.dim1 32 (omega arith) (bounds x.kind x.dim1 x.dim2 x.flag h).dim1))

  -- the record that the numbers and vectors are
  abbrev r : Record
  r = record_of x exps dz ds z s

  abbrev given : Record
  given = given_of cone flag settings dz ds z s steps

  is-given : r ≡ given
  unfolding entry_of
  is-given = ap (λ (y : Entry). record_of y (take (exponents y.kind y.dim1) cone.exps) dz ds z s) x_is

  code_here : place.code ≡ append_rows bs used r
  code_here = ap (λ (q : Place). q.code) found ∙ same_code bs used is_bytes x exps dz ds z s exponent_places

  code_given : place.code ≡ append_rows bs used given
  code_given = code_here ∙ ap (append_rows bs used) is-given

  module _ (ok : place.code ≡ 0) where
    free_here : Free bs used is_bytes x exps dz ds z s exponent_places
    free_here = free bs used is_bytes x exps dz ds z s exponent_places (sym code_here ∙ ok)

    edition-here : place.edition ≡ edition_at old
    edition-here = ap (λ (q : Place). q.edition) found ∙ place_edition bs used is_bytes x exps dz ds z s exponent_places free_here.good

    count-here : place.count ≡ count_at old
    count-here = ap (λ (q : Place). q.count) found ∙ place_count bs used is_bytes x exps dz ds z s exponent_places free_here.good

    list_here : place.list ≡ list_at old
    list_here = ap (λ (q : Place). q.list) found ∙ place_list bs used is_bytes x exps dz ds z s exponent_places free_here.good

    size-here : place.size ≡ runs_size (runs_for (edition_at old) x.kind x.dim1 x.dim2 x.flag)
    size-here = ap (λ (q : Place). q.size) found ∙ place_size bs used is_bytes x exps dz ds z s exponent_places free_here.good

    room-here : used + place.size + 8 ≤ length bs
    room-here = omega (arith, free_here.room, size-here)

    fits_here : place.list + place.size + 8 * place.count + 28 ≤ length bs
    fits_here = omega (arith, room-here, free_here.used_length, list_here, count-here)

    few_here : place.count < most_records
    few_here = omega (arith, free_here.few, count-here)

    module _ (cut : List Float) (is_cut : cut ≡ exps) where
      entry_here : length (entry_bytes place.edition x cut dz ds z s) ≡ place.size
      entry_here =
          ap (λ (k : List Float). length (entry_bytes place.edition x k dz ds z s)) is_cut
          ∙ ap (λ (k : ℕ). length (entry_bytes k x exps dz ds z s)) edition-here
          ∙ entry-size (edition_at old) x exps dz ds z s exponent_places free_here.laid
          ∙ sym size-here

      left_here : (last : List ℕ) → last ≡ insert_of bs place (entry_bytes place.edition x cut dz ds z s)
          → record { answer = record { code = 0; length = used + place.size + 8 }; bytes = last } ≡ leave bs (longer bs used given)
      left_here last h =
          let new = longer bs used r in
          let size : used + place.size + 8 ≡ length new =
          omega (arith, size-here, longer-length bs used is_bytes x exps dz ds z s exponent_places free_here.good free_here.laid) in
          let bytes : last ≡ new ++ drop (length new) bs =
          h ∙ ap (λ (k : List Float). insert_of bs place (entry_bytes place.edition x k dz ds z s)) is_cut
          ∙ ap (λ (k : ℕ). insert_of bs place (entry_bytes k x exps dz ds z s)) edition-here
          ∙ ap (λ (q : Place). insert_of bs q (entry_bytes (edition_at old) x exps dz ds z s)) found
          ∙ longer-stored bs used is_bytes x exps dz ds z s exponent_places free_here.good free_here.laid free_here.room in
          ap (λ (k : ℕ). record { answer = record { code = 0; length = k }; bytes = last }) size
          ∙ ap (λ (l : List ℕ). record { answer = record { code = 0; length = length new }; bytes = l }) bytes
          ∙ ap (λ (q : Record). leave bs (longer bs used q)) is-given

pub returns-then-place-ne0 : goal.returns-then-place-ne0
unfolding append_of
returns-then-place-ne0 c =
    let a = c.args in
    let is_bytes : AllBelow 256 a.trace.now = below_of_places 256 a.trace.now (λ i h. search rules) in
    let places : length a.cone.exps ≡ 32 = search rules in
    -- the relations of the third, fifth and tenth parameter, field by field
    let behind_cone = c.well_formed.1.1.1 in
    let cone = c.well_formed.1.1.0.1.1 in
    let settings = behind_cone.1.0.1.1 in
    let steps = behind_cone.1.1.1.1.1.1.0.1.1 in
    let passed : Passed a.cone a.flag a.settings a.dz.now a.ds.now a.z.now a.s.now a.steps =
    record {
      places = places;
      rule = cone.1.1.1.0.1;
      exps = elements_fit a.cone.exps _ cone.1.1.1.1.0.1.1;
      start = fits_true _ settings.0.1;
      step = fits_true _ settings.1.0.1;
      smallest = fits_true _ settings.1.1.0.1;
      dz_doubles = c.type_inv.dz;
      ds_doubles = c.type_inv.ds;
      z_doubles = c.type_inv.z;
      s_doubles = c.type_inv.s;
      dualstep = fits_true _ steps.1.1.1.0.1;
      primalstep = fits_true _ steps.1.1.1.1.0.1;
      dualcount = steps.1.0.1;
      primalcount = steps.1.1.0.1;
    } in (
      refused _ _ _ _ (code_given a.trace.now a.used is_bytes a.cone a.flag a.settings a.dz.now a.ds.now a.z.now a.s.now
          a.steps places c.entry_of-x.result c.entry_of-x.ensures c.place_for-place.result c.place_for-place.ensures) c.if-place-ne0.true,
      is_bytes,
      passed,
    )

pub insert-requires : goal.insert-requires
insert-requires c =
    let a = c.args in
    let is_bytes : AllBelow 256 a.trace.now = below_of_places 256 a.trace.now (λ i h. search rules) in
    let places : length a.cone.exps ≡ 32 = search rules in
    let ok = c.if-place-ne0.false in
    let cut = c.head.ensures ∙ ap (λ (n : ℕ). take n a.cone.exps) c.exponents-n.ensures in (
      fits_here a.trace.now a.used is_bytes a.cone a.flag a.settings a.dz.now a.ds.now a.z.now a.s.now
          a.steps places c.entry_of-x.result c.entry_of-x.ensures c.place_for-place.result c.place_for-place.ensures ok,
      few_here a.trace.now a.used is_bytes a.cone a.flag a.settings a.dz.now a.ds.now a.z.now a.s.now
          a.steps places c.entry_of-x.result c.entry_of-x.ensures c.place_for-place.result c.place_for-place.ensures ok,
      entry_here a.trace.now a.used is_bytes a.cone a.flag a.settings a.dz.now a.ds.now a.z.now a.s.now
          a.steps places c.entry_of-x.result c.entry_of-x.ensures c.place_for-place.result c.place_for-place.ensures ok _ cut,
    )

pub overflow_add-result : goal.overflow_add-result
overflow_add-result c =
    let a = c.args in
    let is_bytes : AllBelow 256 a.trace.now = below_of_places 256 a.trace.now (λ i h. search rules) in
    let places : length a.cone.exps ≡ 32 = search rules in
    omega (
      arith,
      room-here a.trace.now a.used is_bytes a.cone a.flag a.settings a.dz.now a.ds.now a.z.now a.s.now
          a.steps places c.entry_of-x.result c.entry_of-x.ensures c.place_for-place.result c.place_for-place.ensures c.if-place-ne0.false,
    )

pub overflow_add-result-2 : goal.overflow_add-result-2
overflow_add-result-2 c =
    let a = c.args in
    let is_bytes : AllBelow 256 a.trace.now = below_of_places 256 a.trace.now (λ i h. search rules) in
    let places : length a.cone.exps ≡ 32 = search rules in
    omega (
      arith,
      room-here a.trace.now a.used is_bytes a.cone a.flag a.settings a.dz.now a.ds.now a.z.now a.s.now
          a.steps places c.entry_of-x.result c.entry_of-x.ensures c.place_for-place.result c.place_for-place.ensures c.if-place-ne0.false,
    )

pub returns : goal.returns
unfolding append_of
returns c =
    let a = c.args in
    let is_bytes : AllBelow 256 a.trace.now = below_of_places 256 a.trace.now (λ i h. search rules) in
    let places : length a.cone.exps ≡ 32 = search rules in
    -- the relations of the third, fifth and tenth parameter, field by field
    let behind_cone = c.well_formed.1.1.1 in
    let cone = c.well_formed.1.1.0.1.1 in
    let settings = behind_cone.1.0.1.1 in
    let steps = behind_cone.1.1.1.1.1.1.0.1.1 in
    let passed : Passed a.cone a.flag a.settings a.dz.now a.ds.now a.z.now a.s.now a.steps =
    record {
      places = places;
      rule = cone.1.1.1.0.1;
      exps = elements_fit a.cone.exps _ cone.1.1.1.1.0.1.1;
      start = fits_true _ settings.0.1;
      step = fits_true _ settings.1.0.1;
      smallest = fits_true _ settings.1.1.0.1;
      dz_doubles = c.type_inv.dz;
      ds_doubles = c.type_inv.ds;
      z_doubles = c.type_inv.z;
      s_doubles = c.type_inv.s;
      dualstep = fits_true _ steps.1.1.1.0.1;
      primalstep = fits_true _ steps.1.1.1.1.0.1;
      dualcount = steps.1.0.1;
      primalcount = steps.1.1.0.1;
    } in
    let ok = c.if-place-ne0.false in
    let cut = c.head.ensures ∙ ap (λ (n : ℕ). take n a.cone.exps) c.exponents-n.ensures in (
      left_here a.trace.now a.used is_bytes a.cone a.flag a.settings a.dz.now a.ds.now a.z.now a.s.now
          a.steps places c.entry_of-x.result c.entry_of-x.ensures c.place_for-place.result c.place_for-place.ensures ok _ cut _
          c.insert.ensures
          ∙ done _ _ _ _ (code_given a.trace.now a.used is_bytes a.cone a.flag a.settings a.dz.now a.ds.now a.z.now a.s.now
          a.steps places c.entry_of-x.result c.entry_of-x.ensures c.place_for-place.result c.place_for-place.ensures) ok,
      is_bytes,
      passed,
    )
