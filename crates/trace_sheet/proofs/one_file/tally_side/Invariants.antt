-- `tally_side` meets its contract. The loop's invariant: what was counted and what is left are the whole. The measure is the count of
-- records that may still come. Assumes nothing.
use Prim.Native.Nat.{◌-◌}
use Rattle.trace_layout.specs.Traces.{most_records}
use Rattle.trace_sheet.proofs.one_file.Tallying.{Reached}
use Rattle.trace_sheet.proofs.one_file.tally_side.Given as goal

abbrev pub invariant-loop-i : goal.invariant-loop-i
invariant-loop-i l = Reached l.primal l.edition l.bytes l.row l.largest l.at l.i

abbrev pub decreases-loop-i : goal.decreases-loop-i
decreases-loop-i l = most_records - l.i
