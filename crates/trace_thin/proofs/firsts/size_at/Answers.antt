-- `size_at` meets its contract: the piece's length. Assumes nothing.
use mathlib.Core.Path.{ap}
use lib.ListN.{length}
use Rattle.trace_thin.proofs.firsts.size_at.Goals as goal

pub returns : goal.returns
returns c = ap length c.piece_at-piece.ensures
