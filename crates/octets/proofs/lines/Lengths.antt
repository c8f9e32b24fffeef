-- How long a line is at most. Assumes nothing.
use mathlib.Core.List.{List, ◌++◌}
use Prim.Native.Nat.{ℕ, ◌+◌, ◌≤◌}
use native.Mathlib.Omega.{arith}
use lib.ListN.{length, length-append}
use Rattle.octets.specs.decimal.Decimal.{decimal_of}
use Rattle.octets.proofs.decimal.Digits.{length_decimal}
use Rattle.octets.specs.lines.Lines.{ascii, line_of}

pub line_most : (word : List ℕ) (n : ℕ) → length (line_of word n) ≤ length word + 21
unfolding line_of
line_most word n =
    omega (arith, length-append (word ++ decimal_of n) (ascii "\n"), length-append word (decimal_of n), length_decimal 20 n)
