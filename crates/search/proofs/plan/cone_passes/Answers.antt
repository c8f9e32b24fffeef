-- `cone_passes` tests with the places that the kind uses, and those suffice. Assumes nothing.
use mathlib.Core.Path.{◌≡◌, ap, ◌∙◌}
use mathlib.Core.Bool.{Bool}
use mathlib.Core.List.{List}
use Prim.Native.Nat.{ℕ}
use native.Mathlib.Omega.{arith}
use lib.Ieee.{Float}
use Rattle.cone.specs.words.Words.{word, low_half, high_half, places_of, cone_of_words}
use Rattle.kinds.specs.Answers.{used_of}
use Rattle.kinds.specs.Passes.{passes_in}
use Rattle.kinds.proofs.UsedPlaces.{used_most, used_suffice}
use Rattle.search.specs.plan.Plans.{cone_passes}
use Rattle.search.proofs.plan.cone_passes.Goals as goal

tested : (w : List ℕ) (primal : Bool) (p : List Float) (r : Bool) (kind dim1 n : ℕ) (exps : List Float)
    → r ≡ passes_in kind dim1 exps primal p → exps ≡ places_of w n → n ≡ used_of kind dim1
    → kind ≡ low_half (word w 0) → dim1 ≡ high_half (word w 0)
    → r ≡ cone_passes (cone_of_words w) primal p
unfolding cone_of_words
tested w primal p r kind dim1 n exps e f g h k =
    e ∙ ap (λ (l : List Float). passes_in kind dim1 l primal p) (f ∙ ap (places_of w) g)
    ∙ used_suffice w kind dim1 primal p
    ∙ ap (λ (x : ℕ). passes_in x dim1 (places_of w 32) primal p) h
    ∙ ap (λ (x : ℕ). passes_in (low_half (word w 0)) x (places_of w 32) primal p) k

pub places-exps-requires : goal.places-exps-requires
places-exps-requires c = omega (arith, c.used.ensures, used_most c.low_half-kind.result c.high_half-dim1.result)

pub returns : goal.returns
returns c =
    tested _ _ _ _ _ _ _ _ c.passes.ensures c.places-exps.ensures c.used.ensures c.low_half-kind.ensures c.high_half-dim1.ensures
