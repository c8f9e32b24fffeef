-- Parts of a text written one behind the other, and how long they are at most. Assumes nothing.
use mathlib.Core.Path.{◌≡◌, refl, sym, ap, ◌∙◌}
use mathlib.Core.Bool.{Bool, true, false}
use mathlib.Core.List.{List, ◌++◌, append_assoc}
use Prim.Native.Nat.{ℕ, ◌+◌, ◌-◌, ◌≤◌}
use native.Mathlib.Omega.{arith}
use lib.Dec.{eqb, ltb}
use lib.ListN.{length, length-append}
use lib.Seq.{sets}
use Rattle.octets.proofs.words.Stores.{wrote_after}
use Rattle.octets.specs.decimal.Decimal.{decimal_of}
use Rattle.octets.proofs.decimal.Digits.{length_decimal}
use Rattle.octets.specs.lines.Lines.{ascii, line_of}
use Rattle.octets.proofs.lines.Lengths.{line_most}
use Rattle.trace_sheet.specs.declared.counts.Largest.{Largest}
use Rattle.trace_sheet.specs.lines.Text.{name_of, exp_part, exp_line, count_line, most_line}
use Rattle.trace_sheet.specs.lines.Text.{skipped_line, flag_line}

-- a part stands at a place, and its end is known
abbrev pub Wrote : List ℕ → List ℕ → ℕ → ℕ → List ℕ → Type 0
Wrote old new place end part = (end ≡ place + length part) × (new ≡ sets old place part)

pub and_then : (old mid new : List ℕ) (p q r : ℕ) (a b : List ℕ) → Wrote old mid p q a → Wrote mid new q r b → Wrote old new p r (a ++ b)
and_then old mid new p q r a b first second =
    (omega (arith, first.0, second.0, length-append a b), wrote_after old mid new p q a b first.1 first.0 second.1)

pub wrote_as : (old new : List ℕ) (p r : ℕ) {a b : List ℕ} → a ≡ b → Wrote old new p r a → Wrote old new p r b
wrote_as old new p r e w = (w.0 ∙ ap (λ (x : List ℕ). p + length x) e, w.1 ∙ ap (sets old p) e)

-- words in front of a line belong to it
pub line_behind : (a b : List ℕ) (n : ℕ) → a ++ line_of b n ≡ line_of (a ++ b) n
unfolding line_of
line_behind a b n =
    sym (append_assoc a (b ++ decimal_of n) (ascii "\n")) ∙ ap (λ (x : List ℕ). x ++ ascii "\n") (sym (append_assoc a b (decimal_of n)))

-- ---- lengths

pub name_most : (primal : Bool) → length (name_of primal) ≤ 7
unfolding name_of
name_most true = omega arith
name_most false = omega arith

exp_by : (field : ℕ) (b : Bool) → ltb field 1023 ≡ b → length (exp_part field) ≤ 25
unfolding exp_part
exp_by field true e = rw e (omega (arith, length-append (ascii "exp -") (decimal_of (1023 - field)), length_decimal 20 (1023 - field)))
exp_by field false e = rw e (omega (arith, length-append (ascii "exp ") (decimal_of (field - 1023)), length_decimal 20 (field - 1023)))

pub exp_most : (field : ℕ) → length (exp_part field) ≤ 25
exp_most field = exp_by field (ltb field 1023) refl

pub exp_line-most : (primal : Bool) (field count : ℕ) → length (exp_line primal field count) ≤ 64
unfolding exp_line
exp_line-most primal field count =
    let front = name_of primal ++ exp_part field in
    omega (
      arith,
      line_most (front ++ ascii " ") count,
      length-append front (ascii " "),
      length-append (name_of primal) (exp_part field),
      name_most primal,
      exp_most field,
    )

count_by : (primal : Bool) (field count : ℕ) (b : Bool) → eqb count 0 ≡ b → length (count_line primal field count) ≤ 64
unfolding count_line
count_by primal field count true e = rw e (omega arith)
count_by primal field count false e = rw e (exp_line-most primal field count)

pub count_most : (primal : Bool) (field count : ℕ) → length (count_line primal field count) ≤ 64
count_most primal field count = count_by primal field count (eqb count 0) refl

pub named-most : (primal : Bool) (word : List ℕ) (n : ℕ) → length word ≤ 10 → length (line_of (name_of primal ++ word) n) ≤ 64
named-most primal word n h =
    omega (arith, line_most (name_of primal ++ word) n, length-append (name_of primal) word, name_most primal)

most-by : (primal : Bool) (t : Largest) (b : Bool) → eqb t.size 0 ≡ b → length (most_line primal t) ≤ 96
unfolding most_line
most-by primal t true e = rw e (omega arith)
most-by primal t false e =
    let tests = ascii "most " ++ decimal_of (t.size - 1) in
    let file = ascii " file " ++ decimal_of t.file in
    rw e (omega (
      arith,
      line_most (((name_of primal ++ tests) ++ file) ++ ascii " at ") t.at,
      length-append ((name_of primal ++ tests) ++ file) (ascii " at "),
      length-append (name_of primal ++ tests) file,
      length-append (name_of primal) tests,
      length-append (ascii "most ") (decimal_of (t.size - 1)),
      length-append (ascii " file ") (decimal_of t.file),
      length_decimal 20 (t.size - 1),
      length_decimal 20 t.file,
      name_most primal,
    ))

pub most-most : (primal : Bool) (t : Largest) → length (most_line primal t) ≤ 96
most-most primal t = most-by primal t (eqb t.size 0) refl

flag_by : (file flag : ℕ) (b : Bool) → eqb flag 0 ≡ b → length (flag_line file flag) ≤ 64
unfolding flag_line skipped_line
flag_by file flag true e = rw e (omega arith)
flag_by file flag false e = rw e (omega (arith, line_most (ascii "skipped file ") file))

pub flag_most : (file flag : ℕ) → length (flag_line file flag) ≤ 64
flag_most file flag = flag_by file flag (eqb flag 0) refl
