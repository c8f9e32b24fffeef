-- The lines of a sheet. 02, Order 14. Definitions only.
use Rattle.std.specs.Prelude.{ℕ, zero, suc, ◌+◌, ◌-◌, Bool, cond, List, [], ◌∷◌, ◌++◌, eqb, ltb, get_or}
use Rattle.octets.specs.decimal.Decimal.{decimal_of}
use Rattle.octets.specs.lines.Lines.{ascii, line_of}
use Rattle.trace_sheet.specs.declared.counts.Largest.{Largest}
use Rattle.trace_sheet.specs.counts.Sheet.{Side}

-- ---- a side

-- "for the side `dual` and then `primal`"
unfoldable pub name_of : Bool → List ℕ
name_of primal = cond primal (ascii "primal ") (ascii "dual ")

-- "`dual exp -3 1`": the field f stands for the exponent f - 1023
unfoldable pub exp_part : ℕ → List ℕ
exp_part field = cond (ltb field 1023) (ascii "exp -" ++ decimal_of (1023 - field)) (ascii "exp " ++ decimal_of (field - 1023))

unfoldable pub exp_line : Bool → ℕ → ℕ → List ℕ
exp_line primal field count = line_of ((name_of primal ++ exp_part field) ++ ascii " ") count

-- "one line per exponent that occurs, largest first": the fields f, f - 1, down to 1, whose counts stand one place further on
unfoldable pub count_line : Bool → ℕ → ℕ → List ℕ
count_line primal field count = cond (eqb count 0) [] (exp_line primal field count)

unfoldable pub exp_lines : Bool → List ℕ → ℕ → List ℕ
exp_lines primal row zero = []
exp_lines primal row (suc f) = count_line primal (suc f) (get_or row (suc f + 1) 0) ++ exp_lines primal row f

-- "`dual most 42 file 1 at 0`; the last is left out when there are no records"
unfoldable pub most_line : Bool → Largest → List ℕ
most_line primal t =
    cond (eqb t.size 0) []
    (line_of
    (((name_of primal ++ (ascii "most " ++ decimal_of (t.size - 1))) ++ (ascii " file " ++ decimal_of t.file)) ++ ascii " at ") t.at)

unfoldable pub side_text : Bool → ℕ → Side → List ℕ
side_text primal records side =
    (((line_of (name_of primal ++ ascii "records ") records ++ line_of (name_of primal ++ ascii "zero ") (get_or side.counts 0 0))
    ++ exp_lines primal side.counts 2046)
    ++ line_of (name_of primal ++ ascii "subnormal ") (get_or side.counts 1 0))
    ++ most_line primal side.largest

-- ---- the files that are skipped

unfoldable pub skipped_line : ℕ → List ℕ
skipped_line file = line_of (ascii "skipped file ") file

unfoldable pub flag_line : ℕ → ℕ → List ℕ
flag_line file flag = cond (eqb flag 0) [] (skipped_line file)

-- "a broken one, or one above 65,536 bytes, is named first in a line `skipped file N`". The first flag is that of the number `file`
unfoldable pub skipped_lines : ℕ → List ℕ → List ℕ
skipped_lines file [] = []
skipped_lines file (flag ∷ flags) = flag_line file flag ++ skipped_lines (file + 1) flags
