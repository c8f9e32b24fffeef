-- `put_results` meets its contract: the primal answer behind the dual one. Assumes nothing.
use mathlib.Core.Path.{refl}
use Rattle.octets.specs.words.Words.{le}
use Rattle.trace.specs.record_writer.Parts.{answer_bytes}
use Rattle.octets.proofs.words.Stores.{wrote_after}
use Rattle.trace.proofs.record_writer.put_results.Goals as goal

pub returns : goal.returns
unfolding le
returns c =
    let a = c.args in
    wrote_after a.bytes.now _ _ a.place _ (answer_bytes a.x.dualstep a.x.dualcount)
    (answer_bytes a.x.primalstep a.x.primalcount) c.put_answer.ensures refl c.put_answer-2.ensures
