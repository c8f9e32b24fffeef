-- `choose` meets its contract: the walk leaves the records' places, of which the loop takes the first of each kind. Its invariant: what was
-- chosen and what is still to be chosen are the whole choice, and the places that are left are as they were. The measure is their count.
-- Assumes nothing.
use Prim.Native.Nat.{◌-◌}
use Rattle.trace_thin.proofs.firsts.Choosing.{Reached}
use Rattle.trace_thin.proofs.firsts.choose.Given as goal

abbrev pub invariant-loop-i : goal.invariant-loop-i
invariant-loop-i l =
    Reached l.bytes l.count l.initial.places l.initial.numbers l.places l.numbers l.kept l.size l.i

abbrev pub decreases-loop-i : goal.decreases-loop-i
decreases-loop-i l = l.count - l.i
