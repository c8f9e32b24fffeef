-- The lines that a loop writes one behind the other: those that are left, and how long they are. Assumes nothing.
use mathlib.Core.Path.{◌≡◌, refl, sym, ap, ◌∙◌}
use mathlib.Core.Bool.{Bool}
use mathlib.Core.List.{List, [], ◌∷◌, ◌++◌}
use Prim.Native.Nat.{ℕ, zero, suc, ◌+◌, ◌*◌, ◌-◌, ◌<◌, ◌≤◌}
use native.Mathlib.Omega.{arith}
use native.Mathlib.Numerals.{add-one}
use lib.ListN.{length, drop, get_or, length-append, drop_of_length-le}
use lib.Seq.{sets, drop-cons}
use Rattle.octets.specs.lines.Lines.{ascii, line_of}
use Rattle.trace_sheet.specs.counts.Sheet.{Side}
use Rattle.trace_sheet.specs.lines.Text.{name_of, count_line}
use Rattle.trace_sheet.specs.lines.Text.{exp_lines, most_line, side_text, flag_line, skipped_lines}
use Rattle.trace_sheet.proofs.lines.Writing.{Wrote, and_then, count_most, named-most, most-most, flag_most}

-- ---- what was written, and what is left of the whole

-- what is left, written here, gives the whole
pub record Reached (old text : List ℕ) (place at : ℕ) (whole left : List ℕ) : Type 0 where
  pub all : length text ≡ length old
  pub ends : at + length left ≡ place + length whole
  pub bytes : sets text at left ≡ sets old place whole

pub begun : (old : List ℕ) (place : ℕ) (whole : List ℕ) → Reached old old place place whole whole
begun old place whole = record { all = refl; ends = refl; bytes = refl }

pub turned : (old text text' : List ℕ) (place at at' : ℕ) (whole line left' left : List ℕ) → Reached old text place at whole left
    → Wrote text text' at at' line → length text' ≡ length text → left ≡ line ++ left' → Reached old text' place at' whole left'
turned old text text' place at at' whole line left' left so_far wrote kept is =
    let both = and_then text text' (sets text' at' left') at at' (at' + length left') line left' wrote (refl, refl) in
    record {
      all = kept ∙ so_far.all;
      ends = omega (arith, wrote.0, so_far.ends, ap length is, length-append line left');
      bytes = both.1 ∙ ap (sets text at) (sym is) ∙ so_far.bytes;
    }

pub done : (old text : List ℕ) (place at : ℕ) (whole left : List ℕ) → Reached old text place at whole left → left ≡ []
    → Wrote old text place at whole
done old text place at whole left so_far none =
    (omega (arith, so_far.ends, ap length none), ap (sets text at) (sym none) ∙ so_far.bytes)

-- ---- exponents, from the largest down

pub exps_here : (primal : Bool) (row : List ℕ) (f : ℕ) → 0 < f
    → exp_lines primal row f ≡ count_line primal f (get_or row (f + 1) 0) ++ exp_lines primal row (f - 1)
unfolding exp_lines
exps_here primal row zero h = absurd (omega arith)
exps_here primal row (suc f) h = let one_less : suc f - 1 ≡ f = omega arith in rw one_less

pub exps_none : (primal : Bool) (row : List ℕ) (f : ℕ) → f ≤ 0 → exp_lines primal row f ≡ []
unfolding exp_lines
exps_none primal row f h = let none : f ≡ 0 = omega arith in rw none

pub exps_most : (primal : Bool) (row : List ℕ) (f : ℕ) → length (exp_lines primal row f) ≤ 64 * f
unfolding exp_lines
exps_most primal row zero = omega arith
exps_most primal row (suc f) =
    let line = count_line primal (suc f) (get_or row (suc f + 1) 0) in
    omega (arith, length-append line (exp_lines primal row f), count_most primal (suc f) (get_or row (suc f + 1) 0), exps_most primal row f)

-- ---- skipped files

module _ (flags : List ℕ) (i : ℕ) where
  abbrev pub left : List ℕ
  left = skipped_lines (i + 1) (drop i flags)

  pub flags_here : i < length flags → left ≡ flag_line (i + 1) (get_or flags i 0) ++ skipped_lines (i + 1 + 1) (drop (i + 1) flags)
  unfolding skipped_lines
  flags_here h = rw (drop-cons flags i 0 h, add-one i)

  pub flags_none : length flags ≤ i → left ≡ []
  unfolding skipped_lines
  flags_none h = rw (drop_of_length-le flags {i = i} h)

pub skipped_most : (file : ℕ) (flags : List ℕ) → length (skipped_lines file flags) ≤ 64 * length flags
unfolding skipped_lines
skipped_most file [] = omega arith
skipped_most file (flag ∷ flags) =
    omega (arith, length-append (flag_line file flag) (skipped_lines (file + 1) flags), flag_most file flag, skipped_most (file + 1) flags)

-- ---- a side

pub side_most : (primal : Bool) (records : ℕ) (side : Side) → length (side_text primal records side) ≤ 131232
unfolding side_text
side_most primal records side =
    let one = line_of (name_of primal ++ ascii "records ") records in
    let two = line_of (name_of primal ++ ascii "zero ") (get_or side.counts 0 0) in
    let three = exp_lines primal side.counts 2046 in
    let four = line_of (name_of primal ++ ascii "subnormal ") (get_or side.counts 1 0) in
    let five = most_line primal side.largest in
    omega (
      arith,
      length-append (((one ++ two) ++ three) ++ four) five,
      length-append ((one ++ two) ++ three) four,
      length-append (one ++ two) three,
      length-append one two,
      named-most primal (ascii "records ") records (omega arith),
      named-most primal (ascii "zero ") (get_or side.counts 0 0) (omega arith),
      exps_most primal side.counts 2046,
      named-most primal (ascii "subnormal ") (get_or side.counts 1 0) (omega arith),
      most-most primal side.largest,
    )
