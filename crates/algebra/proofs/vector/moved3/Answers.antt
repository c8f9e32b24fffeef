-- `moved3` meets its contract: the lists have three places each. Assumes nothing.
use Rattle.std.proofs.Common.{◌≡◌, List, [], ◌∷◌, length, sym, ap₂, rules}
use lib.Ieee.{Float}
use Rattle.double.specs.Operators.{◌⊕◌, ◌⊗◌, at}
use Rattle.algebra.specs.Vectors.{moved_of}
use Rattle.algebra.proofs.Three.{three-places}
use Rattle.algebra.proofs.vector.moved3.Goals as goal

three-moved
    : (x dx : List Float) (a : Float)
    → length x ≡ 3
    → length dx ≡ 3
    → (at x 0 ⊕ a ⊗ at dx 0 ∷ at x 1 ⊕ a ⊗ at dx 1 ∷ at x 2 ⊕ a ⊗ at dx 2 ∷ []) ≡ moved_of x a dx
unfolding moved_of
three-moved x dx a h k = ap₂ (λ (s t : List Float). moved_of s a t) (sym (three-places x h)) (sym (three-places dx k))

pub returns : goal.returns
returns c = three-moved c.args.x c.args.dx _ (search rules) (search rules)
