-- `slide` meets its contract. The loop's invariant: writing the bytes that are left gives what the call is to leave, and what lies behind
-- is as it was. The measure is their count. Assumes nothing.
use Prim.Native.Nat.{◌-◌}
use Rattle.trace_thin.proofs.firsts.Sliding.{Slid}
use Rattle.trace_thin.proofs.firsts.slide.Given as goal

abbrev pub invariant-loop-i : goal.invariant-loop-i
invariant-loop-i l = Slid l.initial.bytes l.bytes l.to l.from l.n l.i

abbrev pub decreases-loop-i : goal.decreases-loop-i
decreases-loop-i l = l.n - l.i
