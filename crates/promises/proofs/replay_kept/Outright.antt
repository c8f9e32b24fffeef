-- A replay passes its edition's default step outright: record by record, and so the counts and the offsets. Assumes nothing.
use mathlib.Core.Path.{◌≡◌, refl, ap}
use mathlib.Core.Bool.{Bool, cond}
use mathlib.Core.List.{List, [], ◌∷◌}
use Prim.Native.Nat.{ℕ, ◌+◌}
use lib.Dec.{eqb}
use lib.Ieee.{Float, binary64, of_bits}
use lib.ListN.{take, get_or}
use Rattle.cone.specs.declared.Settings.{Settings}
use Rattle.cone.specs.Codes.{numel_of}
use Rattle.call_search.specs.single.Entries.{step_length_of}
use Rattle.trace_layout.specs.Records.{Record, size_in}
use Rattle.trace_layout.specs.Traces.{edition_at}
use Rattle.trace.specs.value.Defaults.{default_of, told_step}
use Rattle.cone.specs.Points.{padded}
use Rattle.trace.specs.value.Recorded.{values_of, cone_of, settings_of, steps_of, recorded_of}
use Rattle.trace.proofs.value.Defaults.{defaults_right}
use Rattle.trace_replay.specs.rerun.Rerun.{same_answers, blank_point, rerun_of, agrees_of}
use Rattle.trace_replay.specs.call.Replay.{same_record, same_count, differing, replay_of}
use Rattle.promises.specs.replay_kept.Outright.{told_settings, same_told, count_by, differing_by, replay_by, Outright}

-- an edition whose default is a step that is told
module _ (e : ℕ) (step : Float) (means : (start : Float) → default_of e start ≡ told_step step start) where
  settings_told : (r : Record) → settings_of e r ≡ told_settings step r
  unfolding settings_of told_settings
  settings_told r =
      let start = of_bits binary64 r.start in
      let own : Settings =
      record { start = start; step = of_bits binary64 (get_or r.settings 0 0); smallest = of_bits binary64 (get_or r.settings 1 0) } in
      ap (λ (x : Settings). cond (eqb r.flag 0) own x) (means start)

  same_told_lem : (r : Record) → same_record e r ≡ same_told step r
  unfolding same_record agrees_of rerun_of recorded_of same_told
  same_told_lem r =
      let n = numel_of (cone_of r) in
      let vector : List ℕ → List Float = λ ws. take n (padded 64 (values_of ws)) in
      let point = take n blank_point in
      ap (λ (x : Settings). same_answers
      (step_length_of (cone_of r) (vector r.dz) (vector r.ds) (vector r.z) (vector r.s) point point x).answer (steps_of r))
      (settings_told r)

-- two tests of a record that give the same
module _ (e : ℕ) (same : Record → Bool) (alike : (r : Record) → same_record e r ≡ same r) where
  counted : (rs : List Record) → same_count e rs ≡ count_by same rs
  unfolding same_count count_by
  counted [] = refl
  counted (r ∷ rs) = rw (alike r, counted rs)

  found : (at : ℕ) (rs : List Record) → differing e at rs ≡ differing_by same e at rs
  unfolding differing differing_by
  found at [] = refl
  found at (r ∷ rs) = rw (alike r, found (at + size_in e r) rs)

replayed_by : (bs old : List ℕ) (e : ℕ) (same : Record → Bool) → edition_at bs ≡ e → ((r : Record) → same_record e r ≡ same r)
    → replay_of bs old ≡ replay_by same bs old
unfolding replay_of replay_by
replayed_by bs old e same is alike = rw (is, counted e same alike _, found e same alike 0 _)

pub outright : Outright
outright = record {
  first = λ bs old is. replayed_by bs old 1 _ is (same_told_lem 1 _ defaults_right.first);
  second = λ bs old is. replayed_by bs old 2 _ is (same_told_lem 2 _ defaults_right.second);
  third = λ bs old is. replayed_by bs old 3 _ is (same_told_lem 3 _ defaults_right.third);
}
