-- `put_flag` meets its contract: the test is the definition's. Assumes nothing.
use mathlib.Core.Path.{refl}
use native.Mathlib.Omega.{arith}
use borrow.Author.Tests.{eq-eqb, ne_eqb}
use Rattle.trace_sheet.specs.lines.Text.{skipped_line, flag_line}
use Rattle.trace_sheet.proofs.lines.put_flag.Goals as goal

pub returns-then-flag-eq0 : goal.returns-then-flag-eq0
unfolding flag_line
returns-then-flag-eq0 c = rw (eq-eqb c.args.flag 0 c.if-flag-eq0.true) (omega arith, refl)

pub returns : goal.returns
unfolding flag_line skipped_line
returns c =
    rw (ne_eqb c.args.flag 0 c.if-flag-eq0.false) c.put_line.ensures
