-- `put` meets its contract: its number is the definition's, and where that is 0 the record's bytes stand at the place. Assumes nothing.
use mathlib.Core.Path.{◌≡◌, sym, ap, ◌∙◌}
use mathlib.Core.Bool.{true}
use mathlib.Core.List.{List}
use Prim.Native.Nat.{ℕ, ◌+◌, ◌≤◌}
use native.Mathlib.Omega.{arith}
use lib.Ieee.{Float}
use lib.ListN.{length, take}
use lib.Seq.{sets, length-take-le}
use Rattle.octets.specs.words.Words.{AllBelow}
use Rattle.octets.proofs.words.Words.{below_of_places}
use Rattle.octets.specs.words.Runs.{runs_size}
use Rattle.trace_layout.specs.Records.{Record, bytes_of, exponents, shape_ok, runs_for}
use Rattle.trace_layout.proofs.Records.{bounds, exponents-most}
use Rattle.cone.specs.table.Table.{number_of, code_of}
use Rattle.cone.proofs.table.Settled.{number_above_0, refused, through}
use Rattle.trace_layout.specs.declared.pieces.Entry.{Entry}
use Rattle.cone.specs.declared.Cone.{Cone}
use Rattle.cone.specs.declared.Settings.{Settings}
use Rattle.cone.specs.declared.Steps.{Steps}
use Rattle.trace_layout.specs.pieces.Entries.{record_of}
use Rattle.trace.specs.record_writer.Parts.{entry_bytes}
use Rattle.trace.specs.places.Given.{entry_of, given_of}
use Rattle.trace.specs.entries.Values.{Passed}
use Rattle.trace.specs.recording.Recording.{put_down, put_rows, record_put_of}
use Rattle.trace.proofs.entries.Passing.{fits_true, elements_fit}
use Rattle.trace.proofs.recording.Judging.{put_code, PutFree, put_free, bytes_size, put_size, put_done}
use borrow.Author.Rules.{rules}
use Rattle.trace.proofs.recording.put.Goals as goal

-- ---- what is known once the row's number is

module _ (bs : List ℕ) (at e : ℕ) (cone : Cone) (flag : ℕ) (settings : Settings) (dz ds z s : List Float) (steps : Steps)
    (places : length cone.exps ≡ 32) (x : Entry) (x_is : x ≡ entry_of cone flag settings steps) where
  abbrev exps : List Float
  exps = take (exponents x.kind x.dim1) cone.exps

  exponent_places : shape_ok x.kind x.dim1 x.dim2 x.flag ≡ true → length exps ≡ exponents x.kind x.dim1
  exponent_places h =
      length-take-le (exponents x.kind x.dim1) cone.exps
      (omega (arith, places, exponents-most x.kind x.dim1 32 (omega arith) (bounds x.kind x.dim1 x.dim2 x.flag h).dim1))

  -- the record that the numbers and vectors are
  abbrev r : Record
  r = record_of x exps dz ds z s

  abbrev given : Record
  given = given_of cone flag settings dz ds z s steps

  is-given : r ≡ given
  unfolding entry_of
  is-given = ap (λ (y : Entry). record_of y (take (exponents y.kind y.dim1) cone.exps) dz ds z s) x_is

  module _ (code : ℕ) (code_here : code ≡ put_rows bs at e r) where
    code_given : code ≡ put_rows bs at e given
    code_given = code_here ∙ ap (put_rows bs at e) is-given

    module _ (ok : code ≡ 0) (size : ℕ) (size_is : size ≡ runs_size (runs_for e x.kind x.dim1 x.dim2 x.flag)) where
      free : PutFree bs at e x exps dz ds z s exponent_places
      free = put_free bs at e x exps dz ds z s exponent_places (sym code_here ∙ ok)

      room : at + size ≤ length bs
      room = omega (arith, free.room, bytes_size bs at e x exps dz ds z s exponent_places free, size_is)

      module _ (cut : List Float) (is_cut : cut ≡ exps) where
        entry_fits : at + length (entry_bytes e x cut dz ds z s) ≤ length bs
        entry_fits =
            omega (
              arith,
              ap (λ (k : List Float). length (entry_bytes e x k dz ds z s)) is_cut,
              put_size bs at e x exps dz ds z s exponent_places free,
              size_is,
              room,
            )

        left : (last : List ℕ) → last ≡ sets bs at (entry_bytes e x cut dz ds z s)
            → record { answer = record { code = 0; length = at + size }; bytes = last } ≡ put_down bs at (bytes_of e given)
        left last h =
            ap (λ (k : ℕ). record { answer = record { code = 0; length = at + k }; bytes = last }) size_is
            ∙ put_done bs at e x exps dz ds z s exponent_places free last
            (h ∙ ap (λ (k : List Float). sets bs at (entry_bytes e x k dz ds z s)) is_cut)
            ∙ ap (λ (q : Record). put_down bs at (bytes_of e q)) is-given

pub returns-in-Err : goal.returns-in-Err
unfolding record_put_of
returns-in-Err c =
    let a = c.args in
    let is_bytes : AllBelow 256 a.bytes.now = below_of_places 256 a.bytes.now (λ i h. search rules) in
    let places : length a.cone.exps ≡ 32 = search rules in
    -- the relations of the fourth, sixth and eleventh parameter, field by field
    let behind_cone = c.well_formed.1.1.1.1 in
    let cone = c.well_formed.1.1.1.0.1.1 in
    let settings = behind_cone.1.0.1.1 in
    let steps = behind_cone.1.1.1.1.1.1.0.1.1 in
    let passed : Passed a.cone a.flag a.settings a.dz.now a.ds.now a.z.now a.s.now a.steps =
    record {
      places = places;
      rule = cone.1.1.1.0.1;
      exps = elements_fit a.cone.exps _ cone.1.1.1.1.0.1.1;
      start = fits_true _ settings.0.1;
      step = fits_true _ settings.1.0.1;
      smallest = fits_true _ settings.1.1.0.1;
      dz_doubles = c.type_inv.dz;
      ds_doubles = c.type_inv.ds;
      z_doubles = c.type_inv.z;
      s_doubles = c.type_inv.s;
      dualstep = fits_true _ steps.1.1.1.0.1;
      primalstep = fits_true _ steps.1.1.1.1.0.1;
      dualcount = steps.1.0.1;
      primalcount = steps.1.1.0.1;
    } in
    let size = c.size_for-size.ensures in
    let code_here =
    rw (c.short.ensures, c.known.ensures, c.entry_ok-laid.ensures, size) at (sym (ap code_of c.in-Err.is) ∙ c.trace_row.ensures)
    ∙ put_code a.bytes.now a.at a.edition c.entry_of-x.result (take (exponents c.entry_of-x.result.kind c.entry_of-x.result.dim1)
    a.cone.exps)
    a.dz.now a.ds.now a.z.now a.s.now
    (exponent_places a.bytes.now a.at a.edition a.cone a.flag a.settings a.dz.now a.ds.now a.z.now a.s.now a.steps places
    c.entry_of-x.result
    c.entry_of-x.ensures) in (
      rw c.refused.ensures (refused _ _ _ _ (code_given a.bytes.now a.at a.edition a.cone a.flag a.settings a.dz.now a.ds.now a.z.now a.s.now a.steps places
          c.entry_of-x.result
          c.entry_of-x.ensures (number_of c.in-Err.refusal) code_here) (number_above_0 _)),
      is_bytes,
      passed,
    )

pub put_record-requires : goal.put_record-requires
put_record-requires c =
    let a = c.args in
    let places : length a.cone.exps ≡ 32 = search rules in
    let size = c.size_for-size.ensures in
    let code_here =
    rw (c.short.ensures, c.known.ensures, c.entry_ok-laid.ensures, size) at c.trace_row.ensures
    ∙ put_code a.bytes.now a.at a.edition c.entry_of-x.result (take (exponents c.entry_of-x.result.kind c.entry_of-x.result.dim1)
    a.cone.exps)
    a.dz.now a.ds.now a.z.now a.s.now
    (exponent_places a.bytes.now a.at a.edition a.cone a.flag a.settings a.dz.now a.ds.now a.z.now a.s.now a.steps places
    c.entry_of-x.result
    c.entry_of-x.ensures) in
    let ok = (ap code_of c.in_default.is) in
    let cut = c.head.ensures ∙ ap (λ (n : ℕ). take n a.cone.exps) c.exponents-n.ensures in
    entry_fits a.bytes.now a.at a.edition a.cone a.flag a.settings a.dz.now a.ds.now a.z.now a.s.now a.steps places c.entry_of-x.result
    c.entry_of-x.ensures (code_of c.trace_row.result) code_here ok _ size _ cut

pub overflow_add-result : goal.overflow_add-result
overflow_add-result c =
    let a = c.args in
    let places : length a.cone.exps ≡ 32 = search rules in
    let size = c.size_for-size.ensures in
    let code_here =
    rw (c.short.ensures, c.known.ensures, c.entry_ok-laid.ensures, size) at c.trace_row.ensures
    ∙ put_code a.bytes.now a.at a.edition c.entry_of-x.result (take (exponents c.entry_of-x.result.kind c.entry_of-x.result.dim1)
    a.cone.exps)
    a.dz.now a.ds.now a.z.now a.s.now
    (exponent_places a.bytes.now a.at a.edition a.cone a.flag a.settings a.dz.now a.ds.now a.z.now a.s.now a.steps places
    c.entry_of-x.result
    c.entry_of-x.ensures) in
    omega (
      arith,
      room a.bytes.now a.at a.edition a.cone a.flag a.settings a.dz.now a.ds.now a.z.now a.s.now a.steps places c.entry_of-x.result
          c.entry_of-x.ensures (code_of c.trace_row.result) code_here (ap code_of c.in_default.is) _ size,
    )

pub returns : goal.returns
unfolding record_put_of
returns c =
    let a = c.args in
    let is_bytes : AllBelow 256 a.bytes.now = below_of_places 256 a.bytes.now (λ i h. search rules) in
    let places : length a.cone.exps ≡ 32 = search rules in
    -- the relations of the fourth, sixth and eleventh parameter, field by field
    let behind_cone = c.well_formed.1.1.1.1 in
    let cone = c.well_formed.1.1.1.0.1.1 in
    let settings = behind_cone.1.0.1.1 in
    let steps = behind_cone.1.1.1.1.1.1.0.1.1 in
    let passed : Passed a.cone a.flag a.settings a.dz.now a.ds.now a.z.now a.s.now a.steps =
    record {
      places = places;
      rule = cone.1.1.1.0.1;
      exps = elements_fit a.cone.exps _ cone.1.1.1.1.0.1.1;
      start = fits_true _ settings.0.1;
      step = fits_true _ settings.1.0.1;
      smallest = fits_true _ settings.1.1.0.1;
      dz_doubles = c.type_inv.dz;
      ds_doubles = c.type_inv.ds;
      z_doubles = c.type_inv.z;
      s_doubles = c.type_inv.s;
      dualstep = fits_true _ steps.1.1.1.0.1;
      primalstep = fits_true _ steps.1.1.1.1.0.1;
      dualcount = steps.1.0.1;
      primalcount = steps.1.1.0.1;
    } in
    let size = c.size_for-size.ensures in
    let code_here =
    rw (c.short.ensures, c.known.ensures, c.entry_ok-laid.ensures, size) at c.trace_row.ensures
    ∙ put_code a.bytes.now a.at a.edition c.entry_of-x.result (take (exponents c.entry_of-x.result.kind c.entry_of-x.result.dim1)
    a.cone.exps)
    a.dz.now a.ds.now a.z.now a.s.now
    (exponent_places a.bytes.now a.at a.edition a.cone a.flag a.settings a.dz.now a.ds.now a.z.now a.s.now a.steps places
    c.entry_of-x.result
    c.entry_of-x.ensures) in
    let ok = (ap code_of c.in_default.is) in
    let cut = c.head.ensures ∙ ap (λ (n : ℕ). take n a.cone.exps) c.exponents-n.ensures in (
      through _ _ _ _ (code_given a.bytes.now a.at a.edition a.cone a.flag a.settings a.dz.now a.ds.now a.z.now a.s.now a.steps places
          c.entry_of-x.result
          c.entry_of-x.ensures (code_of c.trace_row.result) code_here) ok (left a.bytes.now a.at a.edition a.cone a.flag a.settings a.dz.now
          a.ds.now a.z.now a.s.now a.steps places c.entry_of-x.result
          c.entry_of-x.ensures (code_of c.trace_row.result) code_here ok _ size _ cut _ c.put_record.ensures),
      is_bytes,
      passed,
    )
