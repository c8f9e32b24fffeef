-- The line of a refusal, as text. Assumes nothing.
use mathlib.Core.Path.{◌≡◌, refl}
use Rattle.octets.specs.decimal.Decimal.{decimal_in}
use Rattle.octets.specs.lines.Lines.{line_of, ascii, refused_text}

refused_eight : refused_text 8 ≡ ascii "refused 8\n"
unfolding line_of decimal_in
refused_eight = refl
