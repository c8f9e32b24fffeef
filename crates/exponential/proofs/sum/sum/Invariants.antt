-- `sum` meets its contract. Invariant: v is the sum of the terms from i on. That no term overflows is the bound of the
-- whole sum. Assumes nothing.
use Rattle.std.proofs.Common.{◌≡◌, ◌-◌, ◌≤◌}
use Rattle.exponential.specs.Steps.{horner}
use Rattle.exponential.proofs.sum.sum.Given as goal

abbrev pub invariant-loop-i : goal.invariant-loop-i
invariant-loop-i l = (l.i ≤ 21) × (l.v ≡ horner l.r (39 - l.i))
