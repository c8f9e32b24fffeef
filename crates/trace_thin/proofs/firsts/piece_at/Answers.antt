-- `piece_at` meets its contract: the number four bytes behind the place is how many bytes are taken. Assumes nothing.
use mathlib.Core.Path.{◌∙◌}
use Rattle.trace_thin.specs.firsts.Pieces.{piece_of}
use Rattle.trace_thin.proofs.firsts.piece_at.Goals as goal

pub returns : goal.returns
unfolding piece_of
returns c = c.front.ensures ∙ rw (c.u32_at.ensures, c.behind-rest.ensures)
