-- What judging a trace answers. Definitions only.
use Rattle.std.specs.Prelude.{ℕ, ◌+◌, ◌*◌, ◌-◌, Bool, cond, ◌&&◌, List, eqb, leb, length, take, drop}
use Rattle.octets.specs.words.Words.{word_at}
use Rattle.trace.specs.declared.judge.Trailer.{Trailer}
use Rattle.trace.specs.declared.judge.Judged.{Judged}
use Rattle.trace_layout.specs.Traces.{back_mark, most_records, trailer_size, known, list_at, count_at, edition_at, walks, good_trace}

unfoldable pub trailer_at : List ℕ → Trailer
trailer_at bs = record { list = list_at bs; count = count_at bs; edition = edition_at bs; mark = word_at 4 bs (length bs - 4) }

-- `trailer_ok` of a trailer that was read, at the end of n bytes
unfoldable pub trailer_ok_with : ℕ → Trailer → Bool
trailer_ok_with n t =
    leb trailer_size n && eqb t.mark back_mark && known t.edition && leb t.count most_records
    && eqb (t.list + 8 * t.count + trailer_size) n

unfoldable pub good_with : List ℕ → Trailer → Bool
good_with bs t = trailer_ok_with (length bs) t && walks t.edition t.count 0 (take t.list bs) (drop t.list bs)

-- 02: "Refusals, the only ones here: 9 a trace or record that breaks the layout"
unfoldable pub open_of : List ℕ → Judged
open_of bs =
    cond (good_trace bs) (record { code = 0; edition = edition_at bs; count = count_at bs; list = list_at bs })
    (record { code = 9; edition = 0; count = 0; list = 0 })
