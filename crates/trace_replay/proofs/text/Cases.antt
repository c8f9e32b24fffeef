-- The text of 02's own example, that of no records, and a number of four digits, as text. Assumes nothing.
use mathlib.Core.Path.{◌≡◌, refl}
use mathlib.Core.List.{[], ◌∷◌}
use Rattle.octets.specs.decimal.Decimal.{decimal_in, decimal_of}
use Rattle.octets.specs.lines.Lines.{ascii, line_of}
use Rattle.trace_layout.specs.Traces.{most_records}
use Rattle.trace_replay.specs.text.Text.{offset_lines, replay_text}

-- 02: "Two records, the first differing, print `records 2`, `same 1`, `differ 1`, `at 0`"
two_records : replay_text 2 1 1 (0 ∷ []) ≡ ascii "records 2\nsame 1\ndiffer 1\nat 0\n"
unfolding replay_text offset_lines line_of decimal_in
two_records = refl

no_records : replay_text 0 0 0 [] ≡ ascii "records 0\nsame 0\ndiffer 0\n"
unfolding replay_text offset_lines line_of decimal_in
no_records = refl

largest : decimal_of most_records ≡ ascii "4096"
unfolding decimal_in
largest = refl
