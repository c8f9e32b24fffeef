-- `open` meets its contract: three numbers of the judge's answer. Assumes nothing.
use Rattle.trace.specs.entries.Opened.{opened_of}
use Rattle.trace.proofs.entries.open.Goals as goal

pub returns : goal.returns
unfolding opened_of
returns c = rw c.open-opened.ensures
