-- `move_down` meets its contract. The loop's invariant: that of `gather`, and the bytes from the next new place on are as they were, where
-- every piece lies that is left. The measure is the count of pieces left. Assumes nothing.
use Prim.Native.Nat.{◌-◌}
use Rattle.trace_thin.proofs.firsts.Moving.{MovedDown}
use Rattle.trace_thin.proofs.firsts.move_down.Given as goal

abbrev pub invariant-loop-j : goal.invariant-loop-j
invariant-loop-j l = MovedDown l.initial.places l.places l.initial.bytes l.bytes l.kept l.j l.end

abbrev pub decreases-loop-j : goal.decreases-loop-j
decreases-loop-j l = l.kept - l.j
