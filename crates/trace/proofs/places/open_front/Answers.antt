-- `open_front` meets its contract: a front that fits is judged, one that does not is refused. Assumes nothing.
use borrow.Author.Tests.{le-leb, lt-leb}
use Rattle.trace.specs.places.Places.{open_front}
use Rattle.trace.proofs.places.open_front.Goals as goal

pub returns-then-used-trace : goal.returns-then-used-trace
unfolding open_front
returns-then-used-trace c = rw (c.«open».ensures, c.front.ensures, le-leb _ _ c.if-used-trace.true)

pub returns : goal.returns
unfolding open_front
returns c = rw (lt-leb _ _ c.if-used-trace.false)
