-- 02, Order 14: "The exponent, subnormal and zero lines add up to the records": of the lines that are printed. The definitions, and the
-- statement; proofs/sheet_lines/Sums has the proof.
use Rattle.std.specs.Prelude.{ℕ, ◌+◌, ◌≡◌, Bool, true, false, List, [], ◌∷◌, ◌++◌}
use Rattle.octets.specs.lines.Lines.{ascii, line_of}
use Rattle.trace_sheet.specs.counts.Laws.{AllBytes}
use Rattle.trace_sheet.specs.counts.Sheet.{Side, sheet_of}
use Rattle.trace_sheet.specs.lines.Text.{name_of, exp_line, most_line, side_text}

-- a line with a count of steps: `zero N`, `exp E N` by the exponent's field, `subnormal N`
pub data Line : Type 0 where
  zero : ℕ → Line
  exponent : ℕ → ℕ → Line
  subnormal : ℕ → Line

-- its bytes, on one side
unfoldable pub bytes_of : Bool → Line → List ℕ
bytes_of primal (zero n) = line_of (name_of primal ++ ascii "zero ") n
bytes_of primal (exponent field n) = exp_line primal field n
bytes_of primal (subnormal n) = line_of (name_of primal ++ ascii "subnormal ") n

-- the count that it tells
unfoldable pub count_of : Line → ℕ
count_of (zero n) = n
count_of (exponent field n) = n
count_of (subnormal n) = n

-- lines one behind the other, and their counts together
unfoldable pub text_of : Bool → List Line → List ℕ
text_of primal [] = []
text_of primal (l ∷ ls) = bytes_of primal l ++ text_of primal ls

unfoldable pub sum_of : List Line → ℕ
sum_of [] = 0
sum_of (l ∷ ls) = count_of l + sum_of ls

-- between a side's first line and its last stand such lines and nothing else, and they add up to the records
pub record AddUp (primal : Bool) (records : ℕ) (side : Side) : Type 0 where
  pub lines : List Line
  pub text : side_text primal records side
      ≡ line_of (name_of primal ++ ascii "records ") records ++ text_of primal lines ++ most_line primal side.largest
  pub sum : sum_of lines ≡ records

-- of the sheet of any files, on both sides
pub record LinesAddUp : Type 0 where
  pub dual : (files : List (List ℕ)) → AllBytes files → AddUp false (sheet_of files).records (sheet_of files).dual
  pub primal : (files : List (List ℕ)) → AllBytes files → AddUp true (sheet_of files).records (sheet_of files).primal
