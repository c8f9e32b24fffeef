-- `trailer_ok` meets its contract. Assumes nothing.
use Rattle.trace.specs.judge.Opening.{trailer_ok_with}
use Rattle.trace.proofs.judge.trailer_ok.Goals as goal

pub returns : goal.returns
unfolding trailer_ok_with
returns c = rw (c.fills.ensures, c.known.ensures)
