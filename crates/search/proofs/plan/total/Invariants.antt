-- `total` meets its contract. The loop's invariant: the numbers counted and those of the cones left are all. Assumes nothing.
use mathlib.Core.Path.{◌≡◌}
use Prim.Native.Nat.{◌+◌}
use lib.ListN.{drop}
use Rattle.cone.specs.words.Words.{cones_of}
use Rattle.search.specs.plan.Plans.{total_of}
use Rattle.search.proofs.plan.total.Given as goal

abbrev pub invariant-loop-w : goal.invariant-loop-w
invariant-loop-w l = l.t + total_of (drop l.w-index (cones_of l.cones)) ≡ total_of (cones_of l.cones)
