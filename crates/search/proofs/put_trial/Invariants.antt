-- `put_trial` fills the lent slice from the front: after i turns its first i places are those of the trial's point, and what is left of q
-- and dq begins at place i. Assumes nothing.
use Rattle.std.proofs.Common.{◌≡◌, drop}
use Rattle.search.specs.Points.{trial_point}
use Rattle.search.proofs.Points.{Filled}
use Rattle.search.proofs.put_trial.Given as goal

abbrev pub invariant-loop-i : goal.invariant-loop-i
invariant-loop-i l =
    let i = l.i-iterator.count in
    goal.iterator-loop-i.can_next l.i-iterator
    × goal.iterator-loop-i.is_finite l.i-iterator
    × (l.i-iterator.iter.a.rest.now ≡ drop i l.q)
    × (l.i-iterator.iter.b.rest.now ≡ drop i l.dq)
    × Filled (trial_point l.q l.dq l.alpha) l.initial.point l.point i
