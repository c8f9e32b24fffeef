-- Recording as searches are made: what each of the three calls answers and leaves, for all arguments. docs/DECISIONS says why they are
-- there: a call judges only what it touches. Definitions only.
use Rattle.std.specs.Prelude.{ℕ, ◌+◌, Bool, cond, not, ◌&&◌, List, ◌++◌, eqb, leb, ltb, Float, length, take, drop}
use Rattle.cone.specs.declared.Cone.{Cone}
use Rattle.cone.specs.declared.Settings.{Settings}
use Rattle.cone.specs.declared.Steps.{Steps}
use Rattle.cone.specs.table.Table.{trace_row, settle}
use Rattle.trace_layout.specs.Records.{Record, bytes_of, laid_at, record_at}
use Rattle.trace_layout.specs.Traces.{known, records_bytes, trace_of}
use Rattle.trace.specs.places.Given.{given_of, can_lay}
use Rattle.trace.specs.entries.Writing.{Left, refuse, leave}
use Rattle.trace.specs.declared.value.Recorded.{Recorded}
use Rattle.trace.specs.value.Recorded.{recorded_of, refused_record}
use Rattle.trace.specs.whole.Whole.{whole_records}

-- ---- a record put at a place

-- the new bytes from a place on, and nothing else changed; the length told is the place behind them
abbrev pub put_down : List ℕ → ℕ → List ℕ → Left
put_down bs at new =
    record { answer = record { code = 0; length = at + length new }; bytes = take at bs ++ new ++ drop (at + length new) bs }

-- 02, Order 1: "9 a trace or record that breaks the layout": an edition that is not known (Order 8), a record that cannot be laid out, a
-- place above the slice; "then 8 no room"
unfoldable pub put_rows : List ℕ → ℕ → ℕ → Record → ℕ
put_rows bs at e r =
    trace_row (not (known e && can_lay e r && leb at (length bs))) (ltb (length bs) (at + length (bytes_of e r)))

unfoldable pub record_put_of : List ℕ → ℕ → ℕ → Cone → ℕ → Settings → List Float → List Float → List Float → List Float → Steps → Left
record_put_of bs at e c flag settings dz ds z s steps =
    let r = given_of c flag settings dz ds z s steps in
    settle (put_rows bs at e r) (put_down bs at (bytes_of e r)) (refuse bs)

-- ---- the record at a place

-- the record that begins at a place, whatever lies before and behind it; 9 if none does, or the edition is not known
unfoldable pub record_at_of : List ℕ → ℕ → ℕ → Recorded
record_at_of bs e at =
    let t = drop at bs in
    cond (known e && laid_at e t) (recorded_of e at (record_at e t)) (refused_record 9)

-- ---- records that are sealed

-- the first `used` bytes are whole records of the edition, to the last byte, and at most 4,096
unfoldable pub whole_front : List ℕ → ℕ → ℕ → Bool
whole_front bs used e = leb used (length bs) && eqb (length (records_bytes e (whole_records e (take used bs)))) used

-- the trace of these records
abbrev pub sealed_front : List ℕ → ℕ → ℕ → List ℕ
sealed_front bs used e = trace_of e (whole_records e (take used bs))

-- 9 for an edition that is not known or bytes that are not whole records; "then 8 no room" for list and trailer
unfoldable pub seal_rows : List ℕ → ℕ → ℕ → ℕ
seal_rows bs used e = trace_row (not (known e && whole_front bs used e)) (ltb (length bs) (length (sealed_front bs used e)))

-- the slice begins with the trace, and what lies behind it stays
unfoldable pub trace_seal_of : List ℕ → ℕ → ℕ → Left
trace_seal_of bs used e = settle (seal_rows bs used e) (leave bs (sealed_front bs used e)) (refuse bs)
