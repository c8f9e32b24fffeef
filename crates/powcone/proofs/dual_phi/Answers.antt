-- `dual_phi` is its definition. Assumes nothing.
use Rattle.powcone.specs.Barriers.{dual_phi}
use Rattle.powcone.proofs.dual_phi.Goals as goal

pub returns : goal.returns
unfolding dual_phi
returns c = rw (c.powf-2.ensures, c.powf.ensures)
