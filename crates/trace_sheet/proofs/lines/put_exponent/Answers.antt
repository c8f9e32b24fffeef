-- `put_exponent` meets its contract: the test is the definition's. Assumes nothing.
use borrow.Author.Tests.{lt-ltb, le-ltb}
use Rattle.trace_sheet.specs.lines.Text.{exp_part}
use Rattle.trace_sheet.proofs.lines.put_exponent.Goals as goal

pub returns-then-field-lt1023 : goal.returns-then-field-lt1023
unfolding exp_part
returns-then-field-lt1023 c = rw (lt-ltb c.args.field 1023 c.if-field-lt1023.true) c.put_part.ensures

pub returns : goal.returns
unfolding exp_part
returns c =
    rw (le-ltb c.args.field 1023 c.if-field-lt1023.false) c.put_part-2.ensures
