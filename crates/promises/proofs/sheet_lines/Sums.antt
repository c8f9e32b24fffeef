-- The places of a row are its lines: 0 is the zeros', 1 the subnormals', and f + 1 the field f's, up to 2046; a place that counts nothing has
-- no line and adds nothing. Assumes nothing.
use Prim.Native.Nat.{ℕ, zero, suc, ◌+◌, ◌<◌, ◌≤◌}
use mathlib.Core.Path.{◌≡◌, refl, sym, ap, ◌∙◌}
use mathlib.Core.Bool.{Bool, true, false, cond}
use mathlib.Core.List.{List, [], ◌∷◌, ◌++◌, append_assoc}
use native.Mathlib.Omega.{arith}
use lib.Dec.{eqb}
use lib.ListN.{length, take, get_or}
use lib.Seq.{take-suc, take_all}
use borrow.Author.Tests.{eqb-true}
use Rattle.octets.specs.lines.Lines.{ascii, line_of}
use Rattle.trace_sheet.specs.counts.Counts.{places, total}
use Rattle.trace_sheet.specs.counts.Sheet.{Side, sheet_of, entries_from}
use Rattle.trace_sheet.specs.lines.Text.{name_of, exp_line, count_line, exp_lines, most_line, side_text}
use Rattle.trace_sheet.proofs.counts.Rows.{length-counts}
use Rattle.trace_sheet.proofs.counts.AddsUp.{sheet_laws}
use Rattle.promises.specs.sheet_lines.Sums as lines
use Rattle.promises.specs.sheet_lines.Sums.{Line, bytes_of, count_of, text_of, sum_of, LinesAddUp}

-- ---- the lines of the fields f, f - 1, down to 1

exps_line : ℕ → ℕ → List Line
exps_line field count = cond (eqb count 0) [] (lines.exponent field count ∷ [])

unfoldable exps_of : List ℕ → ℕ → List Line
exps_of row zero = []
exps_of row (suc f) = exps_line (suc f) (get_or row (suc f + 1) 0) ++ exps_of row f

text_append : (primal : Bool) (xs ys : List Line) → text_of primal (xs ++ ys) ≡ text_of primal xs ++ text_of primal ys
unfolding text_of
text_append primal [] ys = refl
text_append primal (x ∷ xs) ys =
    ap (λ (t : List ℕ). bytes_of primal x ++ t) (text_append primal xs ys)
    ∙ sym (append_assoc (bytes_of primal x) (text_of primal xs) (text_of primal ys))

sum-append : (xs ys : List Line) → sum_of (xs ++ ys) ≡ sum_of xs + sum_of ys
unfolding sum_of
sum-append [] ys = omega arith
sum-append (x ∷ xs) ys = omega (arith, sum-append xs ys)

-- a count of nothing has no line
one_text : (primal : Bool) (field count : ℕ) (b : Bool) → eqb count 0 ≡ b → count_line primal field count ≡ text_of primal (exps_line field count)
unfolding count_line text_of bytes_of exps_line
one_text primal field count true e = rw e
one_text primal field count false e = rw e (sym (nothing_behind (exp_line primal field count)))
  where
    nothing_behind : (xs : List ℕ) → xs ++ [] ≡ xs
    nothing_behind [] = refl
    nothing_behind (x ∷ xs) = ap (λ (t : List ℕ). x ∷ t) (nothing_behind xs)

one-sum : (field count : ℕ) (b : Bool) → eqb count 0 ≡ b → sum_of (exps_line field count) ≡ count
unfolding sum_of count_of exps_line
one-sum field count true e = rw e (sym (eqb-true count 0 e))
one-sum field count false e = rw e (omega arith)

exps_text : (primal : Bool) (row : List ℕ) (f : ℕ) → exp_lines primal row f ≡ text_of primal (exps_of row f)
unfolding exp_lines exps_of text_of
exps_text primal row zero = refl
exps_text primal row (suc f) =
    let count = get_or row (suc f + 1) 0 in
    rw (one_text primal (suc f) count (eqb count 0) refl, exps_text primal row f)
    (sym (text_append primal (exps_line (suc f) count) (exps_of row f)))

-- ---- the sum of the first places

total-append : (xs : List ℕ) (y : ℕ) → total (xs ++ (y ∷ [])) ≡ total xs + y
unfolding total
total-append [] y = omega arith
total-append (x ∷ xs) y = omega (arith, total-append xs y)

total_more : (row : List ℕ) (n : ℕ) → n < length row → total (take (suc n) row) ≡ total (take n row) + get_or row n 0
total_more row n h = ap total (take-suc row n 0 h) ∙ total-append (take n row) (get_or row n 0)

none-total : (row : List ℕ) → total (take 0 row) ≡ 0
unfolding total
none-total row = refl

-- place 0, place 1, and the fields' up to f
first-places : (row : List ℕ) (f : ℕ) → suc (suc f) ≤ length row
    → total (take (suc (suc f)) row) ≡ get_or row 0 0 + get_or row 1 0 + sum_of (exps_of row f)
unfolding exps_of sum_of
first-places row zero h = omega (arith, total_more row 1 (omega arith), total_more row 0 (omega arith), none-total row)
first-places row (suc f) h =
    let count = get_or row (suc f + 1) 0 in
    let place : suc (suc f) ≡ suc f + 1 = omega arith in
    omega (
      arith,
      total_more row (suc (suc f)) (omega arith),
      ap (λ (k : ℕ). get_or row k 0) place,
      first-places row f (omega arith),
      sum-append (exps_line (suc f) count) (exps_of row f),
      one-sum (suc f) count (eqb count 0) refl,
    )

-- ---- a side whose row has all its places

abbrev lines_of : List ℕ → List Line
lines_of row = lines.zero (get_or row 0 0) ∷ (exps_of row 2046 ++ (lines.subnormal (get_or row 1 0) ∷ []))

side_text_lem : (primal : Bool) (records : ℕ) (side : Side)
    → side_text primal records side
    ≡ line_of (name_of primal ++ ascii "records ") records ++ text_of primal (lines_of side.counts) ++ most_line primal side.largest
unfolding side_text text_of bytes_of
side_text_lem primal records side =
    let row = side.counts in
    rw (
      text_append primal (exps_of row 2046) (lines.subnormal (get_or row 1 0) ∷ []),
      exps_text primal row 2046,
    ) (regroup (line_of (name_of primal ++ ascii "records ") records) (line_of (name_of primal ++ ascii "zero ") (get_or row 0 0))
    (text_of primal (exps_of row 2046)) (line_of (name_of primal ++ ascii "subnormal ") (get_or row 1 0)) (most_line primal side.largest))
  where
    regroup : (a b c d m : List ℕ) → (((a ++ b) ++ c) ++ d) ++ m ≡ (a ++ (b ++ (c ++ (d ++ [])))) ++ m
    regroup a b c d m = simp append_assoc

side_sum : (row : List ℕ) → length row ≡ places → sum_of (lines_of row) ≡ total row
unfolding sum_of count_of
side_sum row l =
    let all : take places row ≡ row = take_all places row (omega arith) in
    omega (
      arith,
      ap total all,
      first-places row 2046 (omega (arith, l)),
      sum-append (exps_of row 2046) (lines.subnormal (get_or row 1 0) ∷ []),
    )

pub lines_add_up : LinesAddUp
unfolding sheet_of
lines_add_up = record {
  dual = λ files h. record {
    lines = lines_of (sheet_of files).dual.counts;
    text = side_text_lem false (sheet_of files).records (sheet_of files).dual;
    sum = side_sum (sheet_of files).dual.counts (length-counts (entries_from false 1 files)) ∙ sheet_laws.dual_adds_up files h;
  };
  primal = λ files h. record {
    lines = lines_of (sheet_of files).primal.counts;
    text = side_text_lem true (sheet_of files).records (sheet_of files).primal;
    sum = side_sum (sheet_of files).primal.counts (length-counts (entries_from true 1 files)) ∙ sheet_laws.primal_adds_up files h;
  };
}
