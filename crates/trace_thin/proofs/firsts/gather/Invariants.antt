-- `gather` meets its contract. The loop's invariant: the pieces that are left, written behind those that were, give what the call is to
-- leave, and the places that are left are as they were. The measure is their count. Assumes nothing.
use Prim.Native.Nat.{◌-◌}
use Rattle.trace_thin.proofs.firsts.Moving.{Moved}
use Rattle.trace_thin.proofs.firsts.gather.Given as goal

abbrev pub invariant-loop-j : goal.invariant-loop-j
invariant-loop-j l = Moved l.bytes l.initial.places l.places l.initial.output l.output l.kept l.j l.to

abbrev pub decreases-loop-j : goal.decreases-loop-j
decreases-loop-j l = l.kept - l.j
