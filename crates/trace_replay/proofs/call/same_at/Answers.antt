-- `same_at` meets its contract: the record by value, and its search. Assumes nothing.
use mathlib.Core.Path.{ap, ◌∙◌}
use native.Mathlib.Omega.{arith}
use Rattle.trace_replay.specs.rerun.Rerun.{agrees_of}
use Rattle.trace_replay.specs.call.Replay.{same_record}
use Rattle.trace_replay.proofs.call.Noting.{numel_most, size_fits}
use Rattle.trace_replay.proofs.call.same_at.Goals as goal

pub recorded-requires : goal.recorded-requires
recorded-requires c = let f = c.args.found in omega (arith, size_fits f.edition f.bytes.now f.shape f.laid f.read)

pub agrees-requires : goal.agrees-requires
agrees-requires c = numel_most _ _ _ _ c.args.found.laid c.recorded.ensures

pub returns : goal.returns
unfolding same_record
returns c = c.agrees.ensures ∙ ap agrees_of c.recorded.ensures
