-- When a double is finite, in std's word and by comparisons. Assumes nothing.
use mathlib.Core.Path.{◌≡◌, refl, sym, subst, ◌∙◌}
use mathlib.Core.Bool.{true, false}
use lib.Dec.{T}
use lib.Ieee.{Float, nan, inf, fin, lt, ne}
use lib.Ieee.Compare.{nan_differs}
use lib.Ieee.Scale.{finite}
use Rattle.std.specs.Float.{float_is_finite}

-- std's word for it
pub finite_as_std : (x : Float) → float_is_finite x ≡ finite x
unfolding float_is_finite
finite_as_std nan = refl
finite_as_std (inf s) = refl
finite_as_std (fin s m e) = refl

-- not NaN, not above a finite number and not below one
pub finite_between : (x lo hi : Float) → T (finite lo) → T (finite hi) → ne x x ≡ false → lt hi x ≡ false → lt x lo ≡ false → T (finite x)
unfolding lt
finite_between nan lo hi a b n h l = subst T (sym nan_differs ∙ n) tt
finite_between (inf true) nan hi a b n h l = a
finite_between (inf true) (inf s) hi a b n h l = a
finite_between (inf true) (fin s m e) hi a b n h l = subst T l tt
finite_between (inf false) lo nan a b n h l = b
finite_between (inf false) lo (inf s) a b n h l = b
finite_between (inf false) lo (fin s m e) a b n h l = subst T h tt
finite_between (fin s m e) lo hi a b n h l = tt
