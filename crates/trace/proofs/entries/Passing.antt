-- The doubles of an array that was passed: its relation says of each element that it fits. Assumes nothing.
use mathlib.Core.Path.{◌≡◌, sym, subst}
use mathlib.Core.Bool.{true}
use mathlib.Core.List.{List, [], ◌∷◌}
use Prim.Native.Nat.{zero, suc}
use lib.Dec.{T}
use lib.Ieee.{Float, binary64, fits}
use mir.Val.{Val}
use denote.Array.{each}
use denote.Shadow.{shadow}
use denote.Builtin.{f64}
use Rattle.trace.specs.entries.Values.{Doubles}

pub fits_true : (x : Float) → fits binary64 x ≡ true → T (fits binary64 x)
fits_true x h = subst T (sym h) tt

pub elements_fit : (xs : List Float) (us : List Val) → shadow (each f64.Denot f64.own_val xs us)
    → Doubles xs
unfolding fits
elements_fit [] [] h i = tt
elements_fit [] (u ∷ us) h i = absurd h
elements_fit (x ∷ xs) [] h i = absurd h
elements_fit (x ∷ xs) (u ∷ us) h zero = fits_true x h.0.1
elements_fit (x ∷ xs) (u ∷ us) h (suc i) = elements_fit xs us h.1 i
