-- `cholesky_3x3_explicit_solve` meets its contract: it is the definition's text. Assumes nothing.
use Rattle.std.proofs.Common.{refl}
use Rattle.algebra.specs.Cholesky.{solve_of}
use Rattle.algebra.proofs.sym3.cholesky_3x3_explicit_solve.Goals as goal

pub returns : goal.returns
unfolding solve_of
returns c = refl
