-- `put_line` meets its contract: the number behind the word, and the line feed behind both. Assumes nothing.
use mathlib.Core.Path.{refl}
use mathlib.Core.List.{◌++◌}
use Prim.Native.Nat.{◌<◌}
use native.Mathlib.Omega.{arith}
use lib.ListN.{length, length-append}
use Rattle.octets.proofs.words.Stores.{wrote_after}
use Rattle.octets.specs.decimal.Decimal.{decimal_of}
use Rattle.octets.proofs.decimal.Digits.{length_decimal}
use Rattle.octets.specs.lines.Lines.{ascii, line_of}
use Rattle.octets.proofs.lines.put_line.Goals as goal

-- the line feed has its room
pub bounds-bytes-end : goal.bounds-bytes-end
bounds-bytes-end c = omega (arith, c.put_decimal-end.ensures.0, length_decimal 20 c.args.n)

pub overflow_add-result : goal.overflow_add-result
overflow_add-result c =
    let room : c.put_decimal-end.result < length c.put_decimal-end.new.bytes =
    omega (arith, c.put_decimal-end.ensures.0, length_decimal 20 c.args.n) in
    omega arith

pub returns : goal.returns
unfolding line_of
returns c =
    let a = c.args in
    let w = a.word.now in
    let d = decimal_of a.n in
    let to_number =
    wrote_after a.bytes.now _ _ a.place _ w d c.copy.ensures refl
    c.put_decimal-end.ensures.1 in
    let place = c.put_decimal-end.ensures.0 in (
      omega (arith, place, length-append (w ++ d) (ascii "\n"), length-append w d),
      wrote_after a.bytes.now _ _ a.place _ (w ++ d) (ascii "\n") to_number
          (omega (arith, place, length-append w d)) refl,
    )
