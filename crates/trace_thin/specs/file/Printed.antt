-- What a thinning prints and writes of the bytes of a file. 02, Order 13. Definitions only.
use Rattle.std.specs.Prelude.{ℕ, ◌-◌, cond, List, [], length}
use Rattle.trace_layout.specs.Traces.{too_large, good_trace, records_of}
use Rattle.trace_layout.specs.declared.rooms.Lengths.{Lengths}
use Rattle.octets.specs.lines.Lines.{refused_text}
use Rattle.trace_thin.specs.call.Thin.{kept_of, thin_trace}
use Rattle.trace_thin.specs.file.Text.{thin_text}

-- the three lines, or only `refused 8`, or only `refused 9`
unfoldable pub printed_of : List ℕ → List ℕ
printed_of bs =
    cond (too_large bs) (refused_text 8)
    (cond (good_trace bs)
    (thin_text (length (thin_trace bs)) (length (kept_of bs)) (length (records_of bs) - length (kept_of bs)))
    (refused_text 9))

-- the new trace; where the file is refused, nothing is written
unfoldable pub written_of : List ℕ → List ℕ
written_of bs = cond (too_large bs) [] (cond (good_trace bs) (thin_trace bs) [])

abbrev pub lengths_of : List ℕ → Lengths
lengths_of bs = record { text = length (printed_of bs); output = length (written_of bs) }
