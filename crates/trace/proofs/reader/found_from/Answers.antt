-- `found_from` meets its contract: the record at the front of the bytes from the place on. Assumes nothing.
use mathlib.Core.Path.{ap, ◌∙◌}
use Rattle.trace_layout.specs.pieces.Shapes.{found_at}
use Rattle.trace.proofs.reader.found_from.Goals as goal

pub returns : goal.returns
returns c = c.found_at.ensures ∙ ap (found_at _) c.behind.ensures
