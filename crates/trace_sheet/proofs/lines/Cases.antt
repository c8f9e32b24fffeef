-- Small cases of lines, byte by byte. The document's six lines together are `DocumentsLines` of promises. Assumes nothing.
use mathlib.Core.Path.{◌≡◌, refl}
use mathlib.Core.Bool.{true, false}
use mathlib.Core.List.{[], ◌∷◌, ◌++◌}
use Rattle.octets.specs.decimal.Decimal.{decimal_in}
use Rattle.octets.specs.lines.Lines.{ascii, line_of}
use Rattle.trace_sheet.specs.counts.Counts.{none}
use Rattle.trace_sheet.specs.lines.Text.{name_of, exp_part, exp_line, count_line, exp_lines, most_line, skipped_line, flag_line}
use Rattle.trace_sheet.specs.lines.Text.{skipped_lines}

-- 02: "`dual exp 0 1`"
exp_zero : exp_line false 1023 1 ≡ ascii "dual exp 0 1\n"
unfolding exp_line exp_part name_of line_of decimal_in
exp_zero = refl

-- 02: "`dual exp -3 1`"
exp_minus_three : exp_line false 1020 1 ≡ ascii "dual exp -3 1\n"
unfolding exp_line exp_part name_of line_of decimal_in
exp_minus_three = refl

-- the smallest normal exponent is -1022, of the field 1, and the largest 1023, of 2046
exp_ends : (exp_part 1 ≡ ascii "exp -1022") × (exp_part 2046 ≡ ascii "exp 1023")
unfolding exp_part decimal_in
exp_ends = (refl, refl)

-- 02: "`dual most 42 file 1 at 0`"
most_example : most_line false (record { size = 43; file = 1; at = 0 }) ≡ ascii "dual most 42 file 1 at 0\n"
unfolding most_line name_of line_of decimal_in
most_example = refl

-- 02: "the last is left out when there are no records"
no_most : most_line true none ≡ []
unfolding most_line
no_most = refl

-- 02: "one line per exponent that occurs, largest first": fields 3 and 1 occur
largest-first : exp_lines true (0 ∷ 0 ∷ 5 ∷ 0 ∷ 7 ∷ []) 3 ≡ exp_line true 3 7 ++ exp_line true 1 5
unfolding exp_lines count_line exp_line exp_part name_of line_of decimal_in
largest-first = refl

-- 02: "is named first in a line `skipped file N`": the second and the third of three
two_skipped : skipped_lines 1 (0 ∷ 1 ∷ 1 ∷ []) ≡ ascii "skipped file 2\nskipped file 3\n"
unfolding skipped_lines flag_line skipped_line line_of decimal_in
two_skipped = refl
