-- A done append: the record that was given can be laid out, so that the trace with it is written and read back. Assumes nothing.
use mathlib.Core.Path.{◌≡◌, refl, sym, ap, ◌∙◌}
use mathlib.Core.Bool.{Bool, true, false, ◌||◌}
use mathlib.Core.List.{List, [], ◌∷◌, ◌++◌}
use Prim.Native.Nat.{ℕ, zero, suc, ◌+◌, ◌^◌, ◌≤◌, ◌<◌}
use native.Mathlib.Omega.{arith}
use lib.Dec.{eqb}
use lib.Ieee.{Float, binary64, to_bits}
use lib.ListN.{length, take, drop, length-append}
use lib.Seq.{length-take-le, take_at, drop_at}
use borrow.Author.Tests.{eqb-true}
use Rattle.double.proofs.RoundTrips.{pattern_lt}
use Rattle.octets.specs.words.Words.{AllBelow}
use Rattle.octets.proofs.words.Words.{below-append, below-take, below-drop}
use Rattle.trace_layout.specs.Records.{Record, Laid, Sized, exponents, settings_in, has_rule, rules_in, shape_ok}
use Rattle.trace_layout.specs.Traces.{trace_of, list_at, count_at, edition_at, offset_at, good_trace, records_of}
use Rattle.trace_layout.specs.Inverses.{Makes}
use Rattle.trace_layout.proofs.Records.{bounds, exponents-most, settings-most}
use Rattle.trace_layout.proofs.Traces.{trace-below, list_written, count-written}
use Rattle.trace_layout.proofs.Appending.{single, all_laid_more}
use Rattle.trace_layout.proofs.Growing.{old-count, old_is_written}
use Rattle.trace_layout.proofs.Inverses.{traces_inverse, appending_keeps}
use Rattle.cone.specs.declared.Cone.{Cone}
use Rattle.cone.specs.declared.Settings.{Settings}
use Rattle.cone.specs.declared.Steps.{Steps}
use Rattle.cone.specs.table.Table.{settle}
use Rattle.trace_layout.specs.declared.pieces.Entry.{Entry}
use Rattle.trace_layout.specs.pieces.Entries.{settings_row, record_of}
use Rattle.trace.proofs.record_writer.Bits.{length-bits_of}
use Rattle.trace.specs.places.Given.{dim1_of, dim2_of, entry_of, used_exps, given_of, can_lay}
use Rattle.trace.specs.entries.Writing.{Left, refuse, leave, longer, append_rows, append_of}
use Rattle.trace.specs.entries.Values.{Passed}
use Rattle.trace.specs.kept.Appended.{trace_in, Appended}
use Rattle.trace.proofs.entries.Judged.{can_lay_lem, Free, free, inside, good_old, longer-length}
use Rattle.trace.proofs.kept.Doubles.{doubles_take, bits_below}

no_rule_but_one : (e rule : ℕ) (ruled : Bool) → has_rule e ≡ ruled → (ruled || eqb rule 1) ≡ true → rules_in e ≡ 0 → rule ≡ 1
unfolding rules_in
no_rule_but_one e rule true h g none = absurd (omega (arith, simp h at none))
no_rule_but_one e rule false h g none = eqb-true rule 1 g

-- a call whose number is 0 went on
pub settled : (k : ℕ) (bs : List ℕ) (left : Left) → (settle k left (refuse bs)).answer.code ≡ 0 → k ≡ 0
unfolding settle
settled zero bs left h = refl
settled (suc k) bs left h = absurd (omega arith)

module _ (c : Cone) (flag : ℕ) (settings : Settings) (dz ds z s : List Float) (steps : Steps)
    (passed : Passed c flag settings dz ds z s steps) where
  abbrev x : Entry
  x = entry_of c flag settings steps

  abbrev r : Record
  r = given_of c flag settings dz ds z s steps

  pub exponent_places : shape_ok x.kind x.dim1 x.dim2 x.flag ≡ true → length (used_exps c) ≡ exponents x.kind x.dim1
  unfolding entry_of
  exponent_places h =
      length-take-le (exponents c.kind (dim1_of c)) c.exps
      (omega (
        arith,
        passed.places,
        exponents-most c.kind (dim1_of c) 32 (omega arith)
            (bounds c.kind (dim1_of c) (dim2_of c) flag h).dim1,
      ))

  pub given_laid : (e : ℕ) → can_lay e r ≡ true → Laid e r
  unfolding record_of entry_of
  given_laid e h =
      let p = can_lay_lem e x (used_exps c) dz ds z s h in
      record {
        shape = p.shape;
        ruled = no_rule_but_one e c.rule (has_rule e) refl p.ruled;
        exps = length-bits_of (used_exps c) ∙ exponent_places p.shape;
        settings =
            length-take-le (settings_in flag) (to_bits binary64 settings.step ∷ to_bits binary64 settings.smallest ∷ [])
            (settings-most flag);
        dz = length-bits_of dz ∙ p.dz_length;
        ds = length-bits_of ds ∙ p.ds_length;
        z = length-bits_of z ∙ p.z_length;
        s = length-bits_of s ∙ p.s_length;
        dualstep = p.dualstep;
        primalstep = p.primalstep;
      }

  settings-below : AllBelow (256 ^ 8) (settings_row x)
  unfolding AllBelow entry_of
  settings-below =
      below-take (256 ^ 8) (settings_in flag) (to_bits binary64 settings.step ∷ to_bits binary64 settings.smallest ∷ [])
      (omega (arith, pattern_lt settings.step passed.step), (omega (arith, pattern_lt settings.smallest passed.smallest), tt))

  pub given-sized : Sized r
  unfolding record_of entry_of
  given-sized = record {
    rule = omega (arith, passed.rule);
    exps = bits_below (used_exps c) (doubles_take (exponents c.kind (dim1_of c)) c.exps passed.exps);
    start = omega (arith, pattern_lt settings.start passed.start);
    settings = settings-below;
    dz = bits_below dz passed.dz_doubles;
    ds = bits_below ds passed.ds_doubles;
    z = bits_below z passed.z_doubles;
    s = bits_below s passed.s_doubles;
    dualcount = omega (arith, passed.dualcount);
    primalcount = omega (arith, passed.primalcount);
  }

  -- a slice that an append was done in
  module _ (bs : List ℕ) (used : ℕ) (bytes : AllBelow 256 bs)
      (done : (append_of bs used c flag settings dz ds z s steps).answer.code ≡ 0) where
    abbrev left : Left
    left = append_of bs used c flag settings dz ds z s steps

    abbrev before : List ℕ
    before = take used bs

    abbrev after : List ℕ
    after = trace_in left

    abbrev e : ℕ
    e = edition_at before

    abbrev rs : List Record
    rs = records_of before

    rows-off : append_rows bs used r ≡ 0
    unfolding append_of
    rows-off = settled (append_rows bs used r) bs (leave bs (longer bs used r)) done

    pub ok : Free bs used bytes x (used_exps c) dz ds z s exponent_places
    ok = free bs used bytes x (used_exps c) dz ds z s exponent_places rows-off

    pub left_is : left ≡ leave bs (longer bs used r)
    unfolding append_of settle
    left_is = rw rows-off

    pub longer_fits : length (longer bs used r) ≤ length bs
    longer_fits =
        omega (arith, longer-length bs used bytes x (used_exps c) dz ds z s exponent_places ok.good ok.laid, ok.room)

    is-longer : after ≡ trace_of e (rs ++ single r)
    unfolding append_of settle longer
    is-longer = rw rows-off (take_at (longer bs used r) (drop (length (longer bs used r)) bs) (length (longer bs used r)) refl)

    pub in_slice : used ≤ length bs
    in_slice = inside bs used bytes x (used_exps c) dz ds z s exponent_places ok.good

    pub was_good : good_trace before ≡ true
    was_good = good_old bs used bytes x (used_exps c) dz ds z s exponent_places ok.good

    -- the earlier records make a trace, and so do they with the new one
    makes_before : Makes e rs
    makes_before = traces_inverse.makes before (below-take 256 used bs bytes) was_good

    pub makes_after : Makes e (rs ++ single r)
    makes_after = record {
      edition = makes_before.edition;
      few = omega (arith, length-append rs (single r), ok.few, old-count bs used bytes in_slice was_good);
      laid = all_laid_more e rs r makes_before.laid (given_laid e ok.laid) given-sized;
    }

    pub count_before : length rs ≡ count_at before
    count_before = old-count bs used bytes in_slice was_good

    count-after : count_at after ≡ count_at before + 1
    count-after =
        ap count_at is-longer ∙ count-written e (rs ++ single r) makes_after.edition makes_after.few makes_after.laid
        ∙ omega (arith, length-append rs (single r), count_before)

    -- the earlier entries of the list
    offsets-after : (i : ℕ) → i < count_at before → offset_at after i ≡ offset_at before i
    offsets-after i few =
        let early : i < length rs = omega (arith, count_before) in
        let later : i < length (rs ++ single r) = omega (arith, length-append rs (single r)) in
        ap (λ (l : List ℕ). offset_at l i) is-longer ∙ traces_inverse.offset e (rs ++ single r) makes_after i later
        ∙ appending_keeps.kept e rs r i early
        ∙ sym (traces_inverse.offset e rs makes_before i early)
        ∙ ap (λ (l : List ℕ). offset_at l i) (sym (old_is_written bs used bytes in_slice was_good))

    -- the new one
    offset_after : offset_at after (count_at before) ≡ list_at before
    offset_after =
        let later : length rs < length (rs ++ single r) = omega (arith, length-append rs (single r)) in
        ap (offset_at after) (sym count_before) ∙ ap (λ (l : List ℕ). offset_at l (length rs)) is-longer
        ∙ traces_inverse.offset e (rs ++ single r) makes_after (length rs) later
        ∙ appending_keeps.new e rs r makes_before.laid
        ∙ sym (ap list_at (old_is_written bs used bytes in_slice was_good)
        ∙ list_written e rs makes_before.edition makes_before.few makes_before.laid)

    behind_after : drop left.answer.length left.bytes ≡ drop left.answer.length bs
    unfolding append_of settle
    behind_after = rw rows-off (drop_at (longer bs used r) (drop (length (longer bs used r)) bs) (length (longer bs used r)) refl)

    pub append_done : Appended bs used r left
    append_done = record {
      good = rw is-longer (traces_inverse.good e (rs ++ single r) makes_after);
      edition = rw is-longer (traces_inverse.edition e (rs ++ single r) makes_after);
      records = rw is-longer (traces_inverse.read e (rs ++ single r) makes_after);
      count = count-after;
      offsets = offsets-after;
      offset = offset_after;
      behind = behind_after;
    }

    -- the slice is one of bytes still
    pub bytes_after : AllBelow 256 left.bytes
    unfolding append_of settle longer
    bytes_after =
        rw rows-off (below-append 256 (longer bs used r) (drop (length (longer bs used r)) bs) (trace-below e (rs ++ single r))
        (below-drop 256 (length (longer bs used r)) bs bytes))
