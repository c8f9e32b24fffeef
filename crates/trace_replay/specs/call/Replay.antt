-- A trace replayed. 02, Order 2. Definitions only.
use Rattle.std.specs.Prelude.{ℕ, suc, ◌+◌, Bool, cond, not, List, [], ◌∷◌, ◌++◌, ltb, length, take, drop}
use Rattle.cone.specs.table.Table.{trace_row, settle}
use Rattle.trace_layout.specs.Records.{Record, size_in}
use Rattle.trace_layout.specs.Traces.{edition_at, good_trace, records_in, records_of}
use Rattle.trace.specs.declared.judge.Judged.{Judged}
use Rattle.trace.specs.value.Recorded.{recorded_of}
use Rattle.trace_replay.specs.rerun.Rerun.{agrees_of}
use Rattle.trace_replay.specs.declared.call.Replayed.{Replayed}

-- "run every search again, compare steps and counts bit for bit": whether the search of the record gives what the record holds. Its offset,
-- here 0, is no part of its search
unfoldable pub same_record : ℕ → Record → Bool
same_record edition r = agrees_of (recorded_of edition 0 r)

-- how many records are the same
unfoldable pub same_count : ℕ → List Record → ℕ
same_count e [] = 0
same_count e (r ∷ rs) = cond (same_record e r) (suc (same_count e rs)) (same_count e rs)

-- the offset of a record, if it differs
unfoldable pub noted : Bool → ℕ → List ℕ
noted same at = cond same [] (at ∷ [])

-- the offsets of those that differ, "in file order". The first record stands at the offset `at`
unfoldable pub differing : ℕ → ℕ → List Record → List ℕ
differing e at [] = []
differing e at (r ∷ rs) = noted (same_record e r) at ++ differing e (at + size_in e r) rs

-- .. of a trace that was judged; one that was refused has no records
unfoldable pub differing_in : List ℕ → Judged → List ℕ
differing_in bs o = differing o.edition 0 (records_in o.edition o.count (take o.list bs))

-- a call's answer, and the slice that it was lent for the offsets
pub record Noted : Type 0 where
  pub answer : Replayed
  pub offsets : List ℕ

-- 01: "A refusal returns zeros for all numbers", "changes no lent buffer"
abbrev pub refused_with : ℕ → Replayed
refused_with k = record { code = k; records = 0; same = 0; differ = 0 }

abbrev pub refuse : List ℕ → ℕ → Noted
refuse old k = record { answer = refused_with k; offsets = old }

-- 9 for "a trace or record that breaks the layout"; then 8 where the offsets have no room. Behind them the slice is as it was
unfoldable pub replay_of : List ℕ → List ℕ → Noted
replay_of bs old =
    let e = edition_at bs in
    let rs = records_of bs in
    let found = differing e 0 rs in
    settle (trace_row (not (good_trace bs)) (ltb (length old) (length found)))
    (record {
      answer = record { code = 0; records = length rs; same = same_count e rs; differ = length found };
      offsets = found ++ drop (length found) old;
    })
    (refuse old)
