-- NaN and the test `x != x`, which only NaN passes. Assumes nothing.
use mathlib.Core.Path.{◌≡◌, refl, sym, ap, subst, ◌∙◌}
use mathlib.Core.Bool.{Bool, true, false, not}
use Prim.Native.Nat.{ℕ}
use lib.Dec.{T}
use lib.Ieee.{Float, nan, inf, fin, is_nan, ne}
use lib.Ieee.Exact.{HasValue}
use lib.Ieee.Compare.{differs_from_itself, nan_differs}

pub nan_of : (x : Float) → ne x x ≡ true → x ≡ nan
nan_of x h = differs_from_itself x (subst T (sym h) tt)

pub no_nan_of : (x : Float) → ne x x ≡ false → is_nan x ≡ false
unfolding is_nan
no_nan_of nan h = sym nan_differs ∙ h
no_nan_of (inf s) h = refl
no_nan_of (fin s m e) h = refl

-- what `f64::to_bits` asks
pub number-of : (x : Float) → ne x x ≡ false → T (not (is_nan x))
number-of x h = subst (λ (t : Bool). T (not t)) (sym (no_nan_of x h)) tt

pub no_nan_of_value : (x : Float) (s : Bool) (a c : ℕ) → HasValue x s a c → is_nan x ≡ false
unfolding is_nan
no_nan_of_value nan s a c h = absurd h
no_nan_of_value (inf r) s a c h = refl
no_nan_of_value (fin r m e) s a c h = refl

pub is_nan-only : (x : Float) → is_nan x ≡ true → x ≡ nan
unfolding is_nan
is_nan-only nan h = refl
is_nan-only (inf s) h = cc
is_nan-only (fin s m e) h = cc

pub differs-is : (x : Float) → ne x x ≡ is_nan x
unfolding is_nan
differs-is x = go (ne x x) refl
  where
    go : (b : Bool) → ne x x ≡ b → ne x x ≡ is_nan x
    go true e = e ∙ sym (ap is_nan (nan_of x e))
    go false e = e ∙ sym (no_nan_of x e)
