-- `walk` meets its contract. The loop's invariant: what was walked and what is left are the whole walk. Assumes nothing.
use Rattle.trace.proofs.whole.Walking.{Reached}
use Rattle.trace.proofs.whole.walk.Given as goal

abbrev pub invariant-loop-i : goal.invariant-loop-i
invariant-loop-i l = Reached l.edition l.bytes l.initial.starts l.starts l.at l.i
