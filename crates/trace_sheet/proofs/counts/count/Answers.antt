-- `count` meets its contract: one more in the place of the step. Assumes nothing.
use mathlib.Core.Path.{ap}
use Prim.Native.Nat.{ℕ, ◌+◌}
use native.Mathlib.Omega.{arith}
use lib.ListN.{get_or, set}
use Rattle.trace_sheet.specs.counts.Counts.{counted}
use Rattle.trace_sheet.proofs.counts.count.Goals as goal

pub overflow_add-row : goal.overflow_add-row
overflow_add-row c =
    omega (arith, c.requires.1, ap (λ (i : ℕ). get_or c.args.row.now i 0) c.place_of-place.ensures)

pub returns : goal.returns
unfolding counted
returns c =
    let row = c.args.row.now in
    ap (λ (i : ℕ). set row i (get_or row i 0 + 1)) c.place_of-place.ensures
