-- `entry_ok` meets its contract: one row of tests, with what its four calls answer. Assumes nothing.
use Rattle.trace.specs.places.Places.{entry_ok}
use Rattle.trace.proofs.places.entry_ok.Goals as goal

pub returns : goal.returns
unfolding entry_ok
returns c =
    rw (c.step_ok-2.ensures, c.step_ok.ensures, c.has_rule.ensures, c.shape_ok.ensures)
