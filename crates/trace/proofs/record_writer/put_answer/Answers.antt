-- `put_answer` meets its contract: the count behind the step. Assumes nothing.
use mathlib.Core.Path.{refl}
use Rattle.octets.specs.words.Words.{le}
use Rattle.octets.proofs.words.Stores.{wrote_after}
use Rattle.trace.proofs.record_writer.put_answer.Goals as goal

pub returns : goal.returns
unfolding le
returns c =
    let a = c.args in
    wrote_after a.bytes.now _ _ a.place _ (le 8 a.step) (le 4 a.count) c.put.ensures refl c.put-2.ensures
