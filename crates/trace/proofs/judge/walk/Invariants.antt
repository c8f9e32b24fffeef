-- `walk` meets its contract. The loop's invariant: what is left to walk decides the whole walk, and the
-- place is in the body. Assumes nothing.
use mathlib.Core.Path.{◌≡◌}
use Prim.Native.Nat.{◌*◌, ◌-◌, ◌≤◌}
use lib.ListN.{length, drop}
use Rattle.trace_layout.specs.Traces.{walks}
use Rattle.trace.proofs.judge.walk.Given as goal

abbrev pub invariant-loop-i : goal.invariant-loop-i
invariant-loop-i l =
    (l.i ≤ l.count) × (l.at ≤ length l.body)
    × (walks l.edition (l.count - l.i) l.at (drop l.at l.body) (drop (8 * l.i) l.entries) ≡ walks l.edition l.count 0 l.body l.entries)
