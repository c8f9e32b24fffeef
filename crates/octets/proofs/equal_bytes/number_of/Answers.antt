-- `number_of` meets its contract: a byte more in the number is one less that is left. Assumes nothing.
use mathlib.Core.Path.{sym, ◌∙◌}
use native.Mathlib.Omega.{arith}
use Rattle.octets.proofs.equal_bytes.Turns.{number-next, number-ended}
use Rattle.octets.proofs.equal_bytes.number_of.Goals as goal

pub loop-b-preserved : goal.loop-b-preserved
loop-b-preserved c =
    let l = c.loop-b in
    (omega arith, number-next l.number c.args.bytes.now l.b-index (omega arith) ∙ l.invariant.1)

pub returns : goal.returns
returns c =
    let l = c.loop-b in
    sym (number-ended l.number c.args.bytes.now l.b-index (omega arith)) ∙ l.invariant.1
