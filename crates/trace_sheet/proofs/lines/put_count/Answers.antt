-- `put_count` meets its contract: the test is the definition's. Assumes nothing.
use mathlib.Core.Path.{refl}
use native.Mathlib.Omega.{arith}
use borrow.Author.Tests.{eq-eqb, ne_eqb}
use Rattle.trace_sheet.specs.lines.Text.{count_line}
use Rattle.trace_sheet.proofs.lines.put_count.Goals as goal

pub returns-then-count-eq0 : goal.returns-then-count-eq0
unfolding count_line
returns-then-count-eq0 c = rw (eq-eqb c.args.count 0 c.if-count-eq0.true) (omega arith, refl)

pub returns : goal.returns
unfolding count_line
returns c =
    rw (ne_eqb c.args.count 0 c.if-count-eq0.false) c.put_exp.ensures
