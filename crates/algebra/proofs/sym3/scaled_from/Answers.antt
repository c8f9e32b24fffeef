-- `scaled_from` meets its contract: it is the definition's text. Assumes nothing.
use Rattle.std.proofs.Common.{refl}
use Rattle.algebra.specs.Packed.{scaled_of}
use Rattle.algebra.proofs.sym3.scaled_from.Goals as goal

pub returns : goal.returns
unfolding scaled_of
returns c = refl
