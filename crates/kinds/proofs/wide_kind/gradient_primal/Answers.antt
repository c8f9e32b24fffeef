-- `gradient_primal` hands on the exponents in use. Assumes nothing.
use native.Mathlib.Omega.{arith}
use Rattle.judges.proofs.Lengths.{used_at_most}
use Rattle.kinds.specs.Wide.{gradient_primal_of}
use borrow.Author.Rules.{rules}
use Rattle.kinds.proofs.wide_kind.gradient_primal.Goals as goal

pub gradient_primal-requires : goal.gradient_primal-requires
gradient_primal-requires c =
    (omega (arith, used_at_most c.args.dim1 c.args.exps.now (search rules) c.head.ensures), c.requires)

pub returns : goal.returns
unfolding gradient_primal_of
returns c = simp (← c.head.ensures) c.gradient_primal.ensures
