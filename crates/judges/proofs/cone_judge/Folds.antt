-- A fold that tests every place of a slice, over any test. Assumes nothing.
use Rattle.std.proofs.Common.{◌≡◌, List, [], ◌∷◌, sym, ◌∙◌}
use Rattle.std.specs.Prelude.{fold}
use mathlib.Core.Bool.{Bool, true, ◌&&◌, and_assoc, and-true}
use lib.Ieee.{Float}
use Rattle.judges.specs.cone_judge.Cones.{all_of}

module _ (p : Float → Bool) where
  folded-from : (b : Bool) (xs : List Float) → fold (λ (all : Bool) (x : Float). all && p x) b xs ≡ (b && all_of p xs)
  unfolding all_of
  folded-from b [] = sym (and-true b)
  folded-from b (x ∷ xs) = folded-from (b && p x) xs ∙ and_assoc b (p x) (all_of p xs)

  pub all_folded : (xs : List Float) → fold (λ (all : Bool) (x : Float). all && p x) true xs ≡ all_of p xs
  all_folded xs = folded-from true xs
