-- `put_part` meets its contract: the number stands behind the word. Assumes nothing.
use mathlib.Core.Path.{refl}
use Prim.Native.Nat.{◌+◌}
use lib.ListN.{length}
use Rattle.octets.specs.decimal.Decimal.{decimal_of}
use Rattle.trace_sheet.proofs.lines.Writing.{and_then}
use Rattle.trace_sheet.proofs.lines.put_part.Goals as goal

pub returns : goal.returns
returns c =
    let a = c.args in
    let word = a.word.now in
    and_then a.text.now c.copy.new.out c.put_decimal.new.bytes a.place (a.place + length word) c.put_decimal.result
    word (decimal_of a.n) (refl, c.copy.ensures) c.put_decimal.ensures
