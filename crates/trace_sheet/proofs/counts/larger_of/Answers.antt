-- `larger_of` meets its contract: the test is the definition's. Assumes nothing.
use mathlib.Core.Path.{sym}
use native.Mathlib.Omega.{arith}
use Rattle.trace_sheet.proofs.counts.Tops.{larger_first, larger_second}
use Rattle.trace_sheet.proofs.counts.larger_of.Goals as goal

pub returns-then-s-t : goal.returns-then-s-t
returns-then-s-t c = sym (larger_second _ _ (omega arith))

pub returns-else-s-t : goal.returns-else-s-t
returns-else-s-t c = sym (larger_first _ _ (omega arith))
