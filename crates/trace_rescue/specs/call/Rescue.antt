-- A cut trace rescued. 02, Order 7. Definitions only.
use Rattle.std.specs.Prelude.{ℕ, ◌+◌, ◌*◌, ◌-◌, Bool, cond, false, not, ◌&&◌, List, ◌++◌, eqb, leb, ltb, length, drop}
use Rattle.cone.specs.table.Table.{trace_row, settle}
use Rattle.octets.specs.words.Words.{word_at}
use Rattle.trace_layout.specs.Records.{Record}
use Rattle.trace_layout.specs.Traces.{back_mark, trailer_size, known, records_bytes, trace_of, edition_at, good_trace}
use Rattle.trace.specs.whole.Whole.{whole_records}
use Rattle.trace_rescue.specs.declared.call.Rescued.{Rescued}

-- Order 8: "the input ends in a known edition and `BACK`": its last eight bytes do, whatever stands before them
unfoldable pub ends_known : List ℕ → Bool
ends_known bs = leb 8 (length bs) && eqb (word_at 4 bs (length bs - 4)) back_mark && known (edition_at bs)

-- Order 8: "Rescue keeps the edition if the input ends in a known edition and `BACK`, and otherwise takes it from its caller"
unfoldable pub edition_for : List ℕ → ℕ → ℕ
edition_for bs given = cond (ends_known bs) (edition_at bs) given

-- "keep every whole record until the first that is cut or malformed", in an edition e
abbrev pub kept_of : ℕ → List ℕ → List Record
kept_of e bs = whole_records e bs

-- "write a good list and trailer"
abbrev pub saved_of : ℕ → List ℕ → List ℕ
saved_of e bs = trace_of e (kept_of e bs)

-- "Dropped is the input length less the kept records, and less list and trailer where these were right"
unfoldable pub dropped_of : ℕ → List ℕ → ℕ
dropped_of e bs = length bs - length (records_bytes e (kept_of e bs)) - cond (good_trace bs) (8 * length (kept_of e bs) + trailer_size) 0

-- a call's answer, and the slice that it was lent for the output
pub record Saved : Type 0 where
  pub answer : Rescued
  pub output : List ℕ

-- 01: "A refusal returns zeros for all numbers and no for a yes or no", "changes no lent buffer"
abbrev pub refused_with : ℕ → Rescued
refused_with k = record { code = k; kept = 0; dropped = 0; length = 0; right = false }

abbrev pub refuse : List ℕ → ℕ → Saved
refuse old k = record { answer = refused_with k; output = old }

-- "report records kept, bytes dropped, and whether list and trailer were rebuilt or already right (the input was a good trace)"
abbrev pub report_of : ℕ → List ℕ → Rescued
report_of e bs =
    record { code = 0; kept = length (kept_of e bs); dropped = dropped_of e bs; length = length (saved_of e bs); right = good_trace bs }

-- the output begins with the new trace, and behind it is as it was
abbrev pub leave : ℕ → List ℕ → List ℕ → Saved
leave e bs old = record { answer = report_of e bs; output = saved_of e bs ++ drop (length (saved_of e bs)) old }

-- Order 8: "another edition gives 9"; then "8 if the output has no room"
unfoldable pub rescue_of : List ℕ → List ℕ → ℕ → Saved
rescue_of bs old given =
    let e = edition_for bs given in
    settle (trace_row (not (known e)) (ltb (length old) (length (saved_of e bs)))) (leave e bs old) (refuse old)
