-- `put_name` meets its contract: the one name or the other. Assumes nothing.
use mathlib.Core.Path.{refl}
use Rattle.trace_sheet.specs.lines.Text.{name_of}
use Rattle.trace_sheet.proofs.lines.put_name.Goals as goal

pub returns-then-primal : goal.returns-then-primal
unfolding name_of
returns-then-primal c = rw c.if-primal.true (refl, c.copy.ensures)

pub returns : goal.returns
unfolding name_of
returns c = rw c.if-primal.false (refl, c.copy-2.ensures)
