-- What a rescue prints and writes of the bytes of a file. 02, Order 7. Definitions only.
use Rattle.std.specs.Prelude.{ℕ, ◌-◌, cond, ◌&&◌, List, [], eqb, leb, length, get_or}
use Rattle.trace_layout.specs.Traces.{too_large, known, good_trace}
use Rattle.trace_layout.specs.declared.rooms.Lengths.{Lengths}
use Rattle.octets.specs.lines.Lines.{refused_text}
use Rattle.trace_rescue.specs.call.Rescue.{edition_for, kept_of, saved_of, dropped_of}
use Rattle.trace_rescue.specs.file.Text.{rescue_text}

-- the three lines, or only `refused 8`, or only `refused 9`
unfoldable pub printed_of : List ℕ → ℕ → List ℕ
printed_of bs given =
    let e = edition_for bs given in
    cond (too_large bs) (refused_text 8)
    (cond (known e) (rescue_text (length (kept_of e bs)) (dropped_of e bs) (good_trace bs)) (refused_text 9))

-- the new trace; where the file or the edition is refused, nothing is written
unfoldable pub written_of : List ℕ → ℕ → List ℕ
written_of bs given = let e = edition_for bs given in cond (too_large bs) [] (cond (known e) (saved_of e bs) [])

abbrev pub lengths_of : List ℕ → ℕ → Lengths
lengths_of bs given = record { text = length (printed_of bs given); output = length (written_of bs given) }

-- the edition that a word names: one digit, of which `0` is the byte 48 and `9` 57. Every other word names no known edition, as 0 does
unfoldable pub edition_of : List ℕ → ℕ
edition_of word =
    let digit = get_or word 0 0 in
    cond (eqb (length word) 1 && leb 48 digit && leb digit 57) (digit - 48) 0
