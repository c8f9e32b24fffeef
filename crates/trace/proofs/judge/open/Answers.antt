-- `open` meets its contract. Assumes nothing.
use Rattle.trace.proofs.judge.Opening.{opened, refused}
use Rattle.trace.proofs.judge.open.Goals as goal

pub returns-then-good_with : goal.returns-then-good_with
returns-then-good_with c = opened _ _ c.trailer_at-trailer.ensures _ c.good_with.ensures c.if-good_with.true

pub returns-else-good_with : goal.returns-else-good_with
returns-else-good_with c = refused _ _ c.trailer_at-trailer.ensures _ c.good_with.ensures c.if-good_with.false
