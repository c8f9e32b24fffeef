-- 02, Order 8: "Two callers tuned on 0.8 must now pass it outright: the nightly drain and the replay of old files". Replay with a default
-- step that is told outright: definitions, and the statement that a replay is one, by its trace's edition; proofs/replay_kept/Outright has
-- the proofs.
use Rattle.std.specs.Prelude.{ℕ, suc, ◌+◌, ◌≡◌, Bool, cond, not, List, [], ◌∷◌, ◌++◌, eqb, ltb, Float, length, take, drop, get_or}
use Rattle.std.specs.Float.{binary64}
use Rattle.std.specs.Float.Ieee.{of_bits}
use Rattle.double.specs.Numbers.{dec}
use Rattle.cone.specs.declared.Settings.{Settings}
use Rattle.cone.specs.Codes.{numel_of}
use Rattle.cone.specs.table.Table.{trace_row, settle}
use Rattle.call_search.specs.single.Entries.{step_length_of}
use Rattle.trace_layout.specs.Records.{Record, size_in}
use Rattle.trace_layout.specs.Traces.{edition_at, good_trace, records_of}
use Rattle.trace.specs.value.Defaults.{told_step}
use Rattle.cone.specs.Points.{padded}
use Rattle.trace.specs.value.Recorded.{values_of, cone_of, steps_of}
use Rattle.trace_replay.specs.rerun.Rerun.{same_answers, blank_point}
use Rattle.trace_replay.specs.call.Replay.{noted, Noted, refuse, replay_of}

-- the settings of a record: those that follow a flag of 0, and else the step that is told
unfoldable pub told_settings : Float → Record → Settings
told_settings step r =
    let start = of_bits binary64 r.start in
    cond (eqb r.flag 0)
    (record { start = start; step = of_bits binary64 (get_or r.settings 0 0); smallest = of_bits binary64 (get_or r.settings 1 0) })
    (told_step step start)

-- whether the search of the record, with these settings, gives what the record holds. No edition is asked
unfoldable pub same_told : Float → Record → Bool
same_told step r =
    let n = numel_of (cone_of r) in
    let vector : List ℕ → List Float = λ ws. take n (padded 64 (values_of ws)) in
    let point = take n blank_point in
    same_answers
    (step_length_of (cone_of r) (vector r.dz) (vector r.ds) (vector r.z) (vector r.s) point point (told_settings step r)).answer
    (steps_of r)

-- Order 2's replay, with any test of a record
unfoldable pub count_by : (Record → Bool) → List Record → ℕ
count_by same [] = 0
count_by same (r ∷ rs) = cond (same r) (suc (count_by same rs)) (count_by same rs)

unfoldable pub differing_by : (Record → Bool) → ℕ → ℕ → List Record → List ℕ
differing_by same e at [] = []
differing_by same e at (r ∷ rs) = noted (same r) at ++ differing_by same e (at + size_in e r) rs

unfoldable pub replay_by : (Record → Bool) → List ℕ → List ℕ → Noted
replay_by same bs old =
    let rs = records_of bs in
    let found = differing_by same (edition_at bs) 0 rs in
    settle (trace_row (not (good_trace bs)) (ltb (length old) (length found)))
    (record {
      answer = record { code = 0; records = length rs; same = count_by same rs; differ = length found };
      offsets = found ++ drop (length found) old;
    })
    (refuse old)

-- What a replay answers and leaves, for any bytes that end in the edition
pub record Outright : Type 0 where
  -- 0.8 in edition 1, as before Order 8
  pub first : (bs old : List ℕ) → edition_at bs ≡ 1 → replay_of bs old ≡ replay_by (same_told (dec 8 1)) bs old
  pub second : (bs old : List ℕ) → edition_at bs ≡ 2 → replay_of bs old ≡ replay_by (same_told (dec 5 1)) bs old
  pub third : (bs old : List ℕ) → edition_at bs ≡ 3 → replay_of bs old ≡ replay_by (same_told (dec 5 1)) bs old
