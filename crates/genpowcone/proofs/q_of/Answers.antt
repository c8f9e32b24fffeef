-- `q_of` is its definition. Assumes nothing.
use Rattle.std.proofs.Common.{arith, length-take}
use Rattle.genpowcone.proofs.q_of.Goals as goal

pub scale32-requires : goal.scale32-requires
scale32-requires c = rw c.head.ensures (simp length-take (omega arith))

pub returns : goal.returns
returns c = rw (c.scale32.ensures, c.head.ensures)
