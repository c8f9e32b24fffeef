-- What a replay prints of the bytes of a file. 02, Order 2. Definitions only.
use Rattle.std.specs.Prelude.{ℕ, cond, List, length}
use Rattle.trace_layout.specs.Traces.{too_large, edition_at, good_trace, records_of}
use Rattle.octets.specs.lines.Lines.{refused_text}
use Rattle.trace_replay.specs.text.Text.{replay_text}
use Rattle.trace_replay.specs.call.Replay.{same_count, differing}

-- "print three lines: `records N`, `same N`, `differ N`, followed by one line `at OFFSET` per differing record in file order". Of a good
-- trace
unfoldable pub trace_text : List ℕ → List ℕ
trace_text bs =
    let e = edition_at bs in
    let rs = records_of bs in
    let offsets = differing e 0 rs in
    replay_text (length rs) (same_count e rs) (length offsets) offsets

-- "a file above 65,536 bytes prints only `refused 8`, otherwise a broken trace only `refused 9`"
unfoldable pub printed_of : List ℕ → List ℕ
printed_of bs = cond (too_large bs) (refused_text 8) (cond (good_trace bs) (trace_text bs) (refused_text 9))
