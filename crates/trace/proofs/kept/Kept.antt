-- After a done append, the last record that is read has the values that were given, and each earlier one those that it had. Assumes
-- nothing.
use mathlib.Core.Path.{◌≡◌, refl, sym, ap, ◌∙◌}
use mathlib.Core.Bool.{Bool, true, false, cond}
use mathlib.Core.List.{List, [], ◌∷◌, ◌++◌}
use Prim.Native.Nat.{ℕ, zero, suc, ◌<◌}
use native.Mathlib.Omega.{arith}
use lib.Dec.{eqb}
use lib.Ieee.{Float}
use lib.ListN.{length, take, get_or}
use borrow.Author.Tests.{lt-ltb}
use Rattle.double.proofs.RoundTrips.{double_back}
use Rattle.octets.specs.words.Words.{AllBelow}
use Rattle.cone.specs.declared.Cone.{Cone}
use Rattle.cone.specs.declared.Settings.{Settings}
use Rattle.cone.specs.declared.Steps.{Steps}
use Rattle.trace_layout.specs.Records.{Record, exponents, settings_in, record_at}
use Rattle.trace_layout.specs.Traces.{list_at, count_at, edition_at, offset_at, good_trace, records_of}
use Rattle.trace_layout.proofs.Appending.{single}
use Rattle.trace_layout.specs.pieces.Entries.{record_of}
use Rattle.trace.specs.places.Given.{dim1_of, entry_of, used_exps, given_of}
use Rattle.trace.specs.entries.Writing.{append_of}
use Rattle.trace.specs.entries.Values.{Passed}
use Rattle.trace.specs.value.Defaults.{default_of}
use Rattle.trace.specs.value.Recorded.{cone_of, settings_of, steps_of, recorded_of, recorded_in}
use Rattle.trace.specs.kept.Appended.{trace_in, Appended}
use Rattle.trace.specs.kept.Kept.{kept_of}
use Rattle.trace.proofs.kept.Doubles.{doubles_take, values_back}
use Rattle.trace.proofs.kept.Appended.{append_done, count_before, was_good}

-- ---- a list with one record more

last_one : (rs : List Record) (r d : Record) → get_or (rs ++ single r) (length rs) d ≡ r
last_one [] r d = refl
last_one (x ∷ rs) r d = last_one rs r d

earlier_one : (rs : List Record) (r d : Record) (i : ℕ) → i < length rs → get_or (rs ++ single r) i d ≡ get_or rs i d
earlier_one [] r d i h = absurd (omega arith)
earlier_one (x ∷ rs) r d zero h = refl
earlier_one (x ∷ rs) r d (suc i) h = earlier_one rs r d i (omega arith)

-- ---- what `record` answers of a good trace

read-good : (bs : List ℕ) (i : ℕ) → good_trace bs ≡ true → i < count_at bs
    → recorded_in bs i ≡ recorded_of (edition_at bs) (offset_at bs i) (get_or (records_of bs) i (record_at (edition_at bs) []))
unfolding recorded_in
read-good bs i good few = rw (good, lt-ltb i (count_at bs) few)

module _ (c : Cone) (flag : ℕ) (settings : Settings) (dz ds z s : List Float) (steps : Steps)
    (passed : Passed c flag settings dz ds z s steps) where
  abbrev given : Record
  given = given_of c flag settings dz ds z s steps

  -- the settings' own numbers stand behind a flag of 0
  settings_back : (e : ℕ) (own : Bool) → eqb flag 0 ≡ own → settings_of e given ≡ cond own settings (default_of e settings.start)
  unfolding settings_of record_of entry_of settings_in
  settings_back e true h =
      rw (
        h,
        double_back settings.start passed.start,
        double_back settings.step passed.step,
        double_back settings.smallest passed.smallest,
      )
  settings_back e false h = rw (h, double_back settings.start passed.start)

  -- the doubles of the record are those that were given
  pub values_kept : (e at : ℕ) → recorded_of e at given ≡ kept_of e at c flag settings dz ds z s steps
  unfolding recorded_of cone_of steps_of kept_of record_of entry_of
  values_kept e at =
      rw (
        settings_back e (eqb flag 0) refl,
        values_back (used_exps c) (doubles_take (exponents c.kind (dim1_of c)) c.exps passed.exps),
        values_back dz passed.dz_doubles,
        values_back ds passed.ds_doubles,
        values_back z passed.z_doubles,
        values_back s passed.s_doubles,
        double_back steps.dualstep passed.dualstep,
        double_back steps.primalstep passed.primalstep,
      )

  module _ (bs : List ℕ) (used : ℕ) (bytes : AllBelow 256 bs)
      (done : (append_of bs used c flag settings dz ds z s steps).answer.code ≡ 0) where
    abbrev before : List ℕ
    before = take used bs

    abbrev after : List ℕ
    after = trace_in (append_of bs used c flag settings dz ds z s steps)

    abbrev now_there : Appended bs used given (append_of bs used c flag settings dz ds z s steps)
    now_there = append_done c flag settings dz ds z s steps passed bs used bytes done

    -- the record behind the earlier ones is the one that was given, where the list stood
    pub append_kept : recorded_in after (count_at before) ≡ kept_of (edition_at before) (list_at before) c flag settings dz ds z s steps
    append_kept =
        let e = edition_at before in
        let n = count_before c flag settings dz ds z s steps passed bs used bytes done in
        let more : count_at before < count_at after = omega (arith, now_there.count) in
        read-good after (count_at before) now_there.good more
        ∙ ap (λ (k : ℕ). recorded_of k (offset_at after (count_at before)) (get_or (records_of after) (count_at before) (record_at k [])))
        now_there.edition
        ∙ ap (λ (k : ℕ). recorded_of e k (get_or (records_of after) (count_at before) (record_at e []))) now_there.offset
        ∙ ap (recorded_of e (list_at before))
        (ap (λ (rs : List Record). get_or rs (count_at before) (record_at e [])) now_there.records
        ∙ ap (λ (k : ℕ). get_or (records_of before ++ single given) k (record_at e [])) (sym n)
        ∙ last_one (records_of before) given (record_at e []))
        ∙ values_kept e (list_at before)

    -- an earlier record is read as it was
    pub earlier_kept : (i : ℕ) → i < count_at before → recorded_in after i ≡ recorded_in before i
    earlier_kept i few =
        let e = edition_at before in
        let early : i < length (records_of before) = omega (
          arith,
          count_before c flag settings dz ds z s steps passed bs used bytes
              done,
        ) in
        let more : i < count_at after = omega (arith, now_there.count) in
        read-good after i now_there.good more
        ∙ ap (λ (k : ℕ). recorded_of k (offset_at after i) (get_or (records_of after) i (record_at k []))) now_there.edition
        ∙ ap (λ (k : ℕ). recorded_of e k (get_or (records_of after) i (record_at e []))) (now_there.offsets i few)
        ∙ ap (recorded_of e (offset_at before i))
        (ap (λ (rs : List Record). get_or rs i (record_at e [])) now_there.records
        ∙ earlier_one (records_of before) given (record_at e []) i early)
        ∙ sym (read-good before i (was_good c flag settings dz ds z s steps passed bs used bytes done) few)
