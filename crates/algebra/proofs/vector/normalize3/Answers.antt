-- `normalize3` meets its contract: the norm's test picks the definition's branch. Assumes nothing.
use Rattle.std.proofs.Common.{cond, List, [], ◌∷◌, refl, ap, ◌∙◌}
use lib.Ieee.{Float, eq}
use Rattle.arith.proofs.Branches.{taken, left}
use Rattle.double.specs.Operators.{◌⊗◌, ◌⊘◌, at}
use Rattle.double.specs.Numbers.{#0, #1}
use Rattle.algebra.specs.Vectors.{normalize_of}
use Rattle.algebra.proofs.vector.normalize3.Goals as goal

-- the definition, with the norm as an argument
unfoldable normalize_at : List Float → Float → List Float
normalize_at x norm =
    let c = #1 ⊘ norm in
    cond (eq norm #0) x (at x 0 ⊗ c ∷ at x 1 ⊗ c ∷ at x 2 ⊗ c ∷ [])

pub returns-then-norm : goal.returns-then-norm
unfolding normalize_of normalize_at
returns-then-norm c = taken _ c.if-norm.true refl ∙ ap (normalize_at _) c.norm3-norm.ensures

pub returns : goal.returns
unfolding normalize_of normalize_at
returns c = left _ c.if-norm.false refl ∙ ap (normalize_at _) c.norm3-norm.ensures
