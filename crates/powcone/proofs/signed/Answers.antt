-- `signed` is its definition. Assumes nothing.
use Rattle.powcone.specs.PrimalGradient.{signed_of}
use Rattle.powcone.proofs.signed.Goals as goal

pub returns-then-s2 : goal.returns-then-s2
unfolding signed_of
returns-then-s2 c = simp c.if-s2.true

pub returns-else-s2 : goal.returns-else-s2
unfolding signed_of
returns-else-s2 c = simp c.if-s2.false
