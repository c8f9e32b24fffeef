-- The text of a trace of two records that lost its list and trailer, and of a good trace of none. Assumes nothing.
use mathlib.Core.Path.{◌≡◌, refl}
use mathlib.Core.Bool.{true, false}
use Rattle.octets.specs.decimal.Decimal.{decimal_in}
use Rattle.octets.specs.lines.Lines.{ascii, line_of, word_line}
use Rattle.trace_rescue.specs.file.Text.{verdict_line, rescue_text}

cut_text : rescue_text 2 17 false ≡ ascii "kept 2\ndropped 17\nrebuilt\n"
unfolding rescue_text line_of decimal_in verdict_line word_line
cut_text = refl

right_text : rescue_text 0 0 true ≡ ascii "kept 0\ndropped 0\nright\n"
unfolding rescue_text line_of decimal_in verdict_line word_line
right_text = refl
