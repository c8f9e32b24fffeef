-- `tau_and_grad` meets its contract: after i turns the first i places of both arrays are written, and what is left of both slices begins at
-- place i. Assumes nothing.
use Rattle.std.proofs.Common.{◌≡◌, ◌≤◌, length, take, drop}
use Rattle.cone.specs.Points.{padded}
use Rattle.genpowcone.specs.loops.Places.{grad_head, tau_of}
use Rattle.genpowcone.proofs.loops.places.tau_and_grad.Given as goal

abbrev pub invariant-loop-i : goal.invariant-loop-i
invariant-loop-i l =
    let i = l.i-iterator.count in
    goal.iterator-loop-i.can_next l.i-iterator
    × goal.iterator-loop-i.is_finite l.i-iterator
    × (l.i-iterator.iter.a.rest.now ≡ drop i l.alpha)
    × (l.i-iterator.iter.b.rest.now ≡ drop i l.z)
    × (i ≤ length l.alpha)
    × (i ≤ length l.z)
    × (l.tau ≡ padded 32 (take i (tau_of l.alpha l.z)))
    × (l.grad ≡ padded 64 (take i (grad_head l.alpha l.z l.phi l.zeta)))
