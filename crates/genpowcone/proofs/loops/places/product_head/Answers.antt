-- `product_head` meets its contract: its closure gives what the definition says of each place. Assumes nothing.
use Rattle.std.proofs.Common.{rules, ◌≡◌, List, [], ◌∷◌, refl, ap, ◌∙◌}
use mathlib.Core.List.{zip_with}
use lib.Ieee.{Float}
use Rattle.double.specs.Operators.{◌⊖◌, ◌⊗◌}
use Rattle.cone.specs.Points.{padded, zip_three}
use Rattle.genpowcone.specs.loops.Places.{product_head}
use Rattle.genpowcone.proofs.loops.places.product_head.Goals as goal

module _ (k : Float) where
  abbrev turn : Float → Float → Float → Float
  turn d q x = d ⊗ x ⊖ k ⊗ q

  zipped : (d1 q x : List Float) → zip_three turn d1 q x ≡ product_head d1 q k x
  unfolding zip_with
  zipped [] q x = refl
  zipped (d ∷ d1) [] [] = refl
  zipped (d ∷ d1) [] (x ∷ xs) = refl
  zipped (d ∷ d1) (q ∷ qs) [] = refl
  zipped (d ∷ d1) (q ∷ qs) (x ∷ xs) = ap (λ (l : List Float). turn d q x ∷ l) (zipped d1 qs xs)

pub returns : goal.returns
returns c =
    let a = c.args in
    c.filled_by_three.ensures (turn a.coefq) (λ x y z w given. search rules)
    ∙ ap (padded 64) (zipped a.coefq a.d1.now a.q.now a.x.now)
