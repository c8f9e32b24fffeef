-- The place stays in the slice, and the loop goes on only where bytes came.
use Rattle.std.proofs.Common.{length, ◌-◌, ◌≤◌}
use Rattle.program_files.proofs.read_all.Given as goal

abbrev pub invariant-loop-at : goal.invariant-loop-at
invariant-loop-at l = l.at ≤ length l.room

abbrev pub decreases-loop-at : goal.decreases-loop-at
decreases-loop-at l = length l.initial.room - l.at
