-- `row` meets its contract. The loop's invariant: the array after i turns. Assumes nothing.
use mathlib.Core.Path.{◌≡◌}
use Prim.Native.Nat.{◌≤◌}
use Rattle.trace.proofs.value.Rows.{so_far}
use Rattle.trace.proofs.value.row.Given as goal

abbrev pub invariant-loop-i : goal.invariant-loop-i
invariant-loop-i g l = (l.i ≤ l.n) × (l.row ≡ so_far g.row.N l.n l.bytes l.i)
