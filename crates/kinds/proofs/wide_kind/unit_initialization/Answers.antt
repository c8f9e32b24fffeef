-- `unit_initialization` hands on the exponents in use. Assumes nothing.
use native.Mathlib.Omega.{arith}
use Rattle.judges.proofs.Lengths.{used_at_most}
use Rattle.kinds.specs.Wide.{unit_initialization_of}
use borrow.Author.Rules.{rules}
use Rattle.kinds.proofs.wide_kind.unit_initialization.Goals as goal

pub unit_initialization-requires : goal.unit_initialization-requires
unit_initialization-requires c =
    omega (arith, used_at_most c.args.dim1 c.args.exps.now (search rules) c.head.ensures)

pub returns : goal.returns
unfolding unit_initialization_of
returns c = simp (← c.head.ensures) c.unit_initialization.ensures
