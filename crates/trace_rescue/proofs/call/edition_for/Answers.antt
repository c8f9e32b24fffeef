-- `edition_for` meets its contract: one test, each way. Assumes nothing.
use Rattle.trace_rescue.proofs.call.Saving.{chosen_kept, chosen_callers}
use Rattle.trace_rescue.proofs.call.edition_for.Goals as goal

pub returns-then-kept : goal.returns-then-kept
returns-then-kept c =
    chosen_kept c.args.input.now _ _ c.trailer_at-trailer.ensures _ c.known.ensures c.if-kept.true

pub returns-else-kept : goal.returns-else-kept
returns-else-kept c =
    chosen_callers c.args.input.now _ _ c.trailer_at-trailer.ensures _ c.known.ensures c.if-kept.false
