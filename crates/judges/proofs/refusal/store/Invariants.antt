-- `store` meets its contract. The loop's invariant: the first i places hold the answer's. The measure is what is left of the slice. Assumes
-- nothing.
use mathlib.Core.Path.{◌≡◌}
use Prim.Native.Nat.{◌≤◌, ◌-◌}
use lib.ListN.{length, take}
use Rattle.judges.proofs.refusal.store.Given as goal

abbrev pub invariant-loop-i : goal.invariant-loop-i
invariant-loop-i l = (l.i ≤ length l.initial.out) × (l.i-end ≡ length l.initial.out) × (length l.out ≡ length l.initial.out) × (take l.i l.out ≡ take l.i l.ans)

abbrev pub decreases-loop-i : goal.decreases-loop-i
decreases-loop-i l = length l.initial.out - l.i
