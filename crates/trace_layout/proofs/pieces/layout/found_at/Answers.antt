-- `found_at` meets its contract. Assumes nothing.
use Rattle.trace_layout.proofs.pieces.Shapes.{found_record, found_none}
use Rattle.trace_layout.proofs.pieces.layout.found_at.Goals as goal

pub returns-then-laid_with : goal.returns-then-laid_with
returns-then-laid_with c = found_record _ _ _ c.shape_at-shape.ensures _ c.laid_with.ensures c.if-laid_with.true

pub returns-else-laid_with : goal.returns-else-laid_with
returns-else-laid_with c = found_none _ _ _ c.shape_at-shape.ensures _ c.laid_with.ensures c.if-laid_with.false
