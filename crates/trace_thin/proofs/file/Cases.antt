-- The text of a trace of which 17 records were dropped and one of 160 bytes is left, and of the empty trace. Assumes nothing.
use mathlib.Core.Path.{◌≡◌, refl}
use Rattle.octets.specs.decimal.Decimal.{decimal_in}
use Rattle.octets.specs.lines.Lines.{ascii, line_of}
use Rattle.trace_thin.specs.file.Text.{thin_text}

one_text : thin_text 188 1 17 ≡ ascii "length 188\nkept 1\ndropped 17\n"
unfolding thin_text line_of decimal_in
one_text = refl

none_text : thin_text 20 0 0 ≡ ascii "length 20\nkept 0\ndropped 0\n"
unfolding thin_text line_of decimal_in
none_text = refl
