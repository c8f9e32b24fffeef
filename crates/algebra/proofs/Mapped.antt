-- A list that holds f of each number of another: it is as long, and each place of it holds f of that place. Assumes nothing.
use Rattle.std.proofs.Common.{◌≡◌, ℕ, zero, suc, ◌<◌, List, [], ◌∷◌, map, length, get_or, sym, refl, ap, ◌∙◌, le_of_suc-le-suc, not-suc-le-zero}
use lib.ListN.{length-map, get_or-map}
use lib.Ieee.{Float, nan}
use Rattle.double.specs.Operators.{at}

module _ (f : Float → Float) (xs ys : List Float) (e : ys ≡ map f xs) where
  pub mapped_length : length ys ≡ length xs
  mapped_length = ap length e ∙ length-map xs f

  -- behind the last place, too, where f of a NaN is a NaN
  pub mapped_place : f nan ≡ nan → (i : ℕ) → at ys i ≡ f (at xs i)
  mapped_place n i = ap (λ (zs : List Float). at zs i) e ∙ ap (λ (d : Float). get_or (map f xs) i d) (sym n) ∙ get_or-map f xs i nan

pub map_place : (f : Float → Float) (xs : List Float) (i : ℕ) → i < length xs → at (map f xs) i ≡ f (at xs i)
map_place f [] i h = absurd (not-suc-le-zero h)
map_place f (x ∷ xs) zero h = refl
map_place f (x ∷ xs) (suc i) h = map_place f xs i (le_of_suc-le-suc h)
