-- `moved` meets its contract: its closure gives what the definition says of each place. Assumes nothing.
use Rattle.std.proofs.Common.{rules, ◌≡◌, List, [], ◌∷◌, refl, ap, ◌∙◌}
use mathlib.Core.List.{zip_with}
use lib.Ieee.{Float}
use Rattle.double.specs.Operators.{◌⊕◌, ◌⊗◌}
use Rattle.algebra.specs.Vectors.{moved_of}
use Rattle.cone.specs.Points.{padded}
use Rattle.genpowcone.proofs.loops.places.moved.Goals as goal

zip-moved : (x : List Float) (a : Float) (dx : List Float) → zip_with (λ (x d : Float). x ⊕ a ⊗ d) x dx ≡ moved_of x a dx
unfolding zip_with moved_of
zip-moved [] a dx = refl
zip-moved (x ∷ xs) a [] = refl
zip-moved (x ∷ xs) a (d ∷ dx) = ap (λ (l : List Float). x ⊕ a ⊗ d ∷ l) (zip-moved xs a dx)

pub returns : goal.returns
returns c =
    let a = c.args in
    c.filled_zipped.ensures (λ (x d : Float). x ⊕ a.a ⊗ d) (λ x y z given. search rules)
    ∙ ap (padded 64) (zip-moved a.x.now a.a a.dx.now)
