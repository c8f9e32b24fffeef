-- `put_verdict` meets its contract: the line of the one word or of the other. Assumes nothing.
use Rattle.trace_rescue.specs.file.Text.{verdict_line}
use Rattle.trace_rescue.proofs.file.put_verdict.Goals as goal

pub returns : goal.returns
unfolding verdict_line
returns c = rw c.if-right.false c.put_word-2.ensures

pub returns-then-right : goal.returns-then-right
unfolding verdict_line
returns-then-right c = rw c.if-right.true c.put_word.ensures
