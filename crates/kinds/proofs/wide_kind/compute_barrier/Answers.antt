-- `compute_barrier` hands on the exponents in use. Assumes nothing.
use native.Mathlib.Omega.{arith}
use Rattle.judges.proofs.Lengths.{used_at_most}
use Rattle.kinds.specs.Wide.{compute_barrier_of}
use borrow.Author.Rules.{rules}
use Rattle.kinds.proofs.wide_kind.compute_barrier.Goals as goal

pub compute_barrier-requires : goal.compute_barrier-requires
compute_barrier-requires c = (
  omega (arith, used_at_most c.args.dim1 c.args.exps.now (search rules) c.head.ensures),
  c.requires.0,
  c.requires.1,
)

pub returns : goal.returns
unfolding compute_barrier_of
returns c = simp (← c.head.ensures) c.compute_barrier.ensures
