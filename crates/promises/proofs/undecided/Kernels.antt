-- The logarithm and the exponential at what is boundless, and that no exponential has a sign: from their promises. Assumes nothing.
use mathlib.Core.Path.{◌≡◌, refl, sym, subst}
use mathlib.Core.Bool.{Bool, true, false}
use Prim.Native.Nat.{ℕ, ◌*◌, ◌^◌}
use lib.IntN.{ℤ}
use lib.Dec.{T}
use lib.Count.{count_trailing_zeros}
use lib.Ieee.{Float, nan, inf, fin, binary64, fits, up, down, neg, ne, lt, of_bits, of_fields, odd}
use lib.Ieee.Fits.{down_pos}
use Rattle.double.specs.Operators.{◌≺◌}
use Rattle.double.specs.Numbers.{#0, #708, #709}
use Rattle.double.specs.Sizes.{abs_of}
use Rattle.double.proofs.NotNan.{nan_of}
use Rattle.logarithm.specs.Steps.{log_of}
use Rattle.logarithm.proofs.Promise as logarithm
use Rattle.exponential.specs.Steps.{exp_of}
use Rattle.exponential.specs.Bound.{Between, Near}
use Rattle.exponential.proofs.Bound as exponential
use Rattle.promises.proofs.undecided.Unsigned.{unsigned, of_value}
use Rattle.promises.proofs.undecided.Boundless.{boundless}

pub log-boundless : (x : Float) → T (boundless x) → T (boundless (log_of x))
log-boundless nan h = subst (λ (y : Float). T (boundless y)) (sym (logarithm.promise).of_nan) tt
log-boundless (inf true) h = absurd h
log-boundless (inf false) h = subst (λ (y : Float). T (boundless y)) (sym (logarithm.promise).of_infinity) tt
log-boundless (fin s m e) h = absurd h

-- |log| of an infinity
pub log-size : (s : Bool) → T (boundless (abs_of (log_of (inf s))))
unfolding abs_of
log-size true = subst (λ (y : Float). T (boundless (abs_of y))) (sym (logarithm.promise).of_minus_infinity) tt
log-size false = subst (λ (y : Float). T (boundless (abs_of y))) (sym (logarithm.promise).of_infinity) tt

infinity_above : (#709 ≺ inf false) ≡ true
unfolding lt of_bits
infinity_above = refl

infinity_below : (inf true ≺ neg #708) ≡ true
unfolding lt neg of_bits
infinity_below = refl

pub exp_boundless : (x : Float) → T (boundless x) → T (boundless (exp_of x))
exp_boundless nan h = subst (λ (y : Float). T (boundless y)) (sym (exponential.promise).of_nan) tt
exp_boundless (inf true) h = absurd h
exp_boundless (inf false) h = subst (λ (y : Float). T (boundless y)) (sym ((exponential.promise).above_709 (inf false) infinity_above)) tt
exp_boundless (fin s m e) h = absurd h

zero-unsigned : T (unsigned #0)
unfolding of_bits of_fields odd count_trailing_zeros
zero-unsigned = tt

exp_nan : T (unsigned (exp_of nan))
exp_nan = subst (λ (y : Float). T (unsigned y)) (sym (exponential.promise).of_nan) tt

exp_above : (x : Float) → (#709 ≺ x) ≡ true → T (unsigned (exp_of x))
exp_above x h = subst (λ (y : Float). T (unsigned y)) (sym ((exponential.promise).above_709 x h)) tt

exp_below : (x : Float) → (x ≺ neg #708) ≡ true → T (unsigned (exp_of x))
exp_below x h = subst (λ (y : Float). T (unsigned y)) (sym ((exponential.promise).below_708 x h)) zero-unsigned

exp_finite :
    (s : Bool) (m : ℕ) (e : ℤ) → let x = fin s m e in T (fits binary64 x) → (n o u : Bool) → ne x x ≡ n → (#709 ≺ x) ≡ o
    → (x ≺ neg #708) ≡ u → T (unsigned (exp_of x))
exp_finite s m e f true o u hn ho hu = subst (λ (y : Float). T (unsigned (exp_of y))) (sym (nan_of (fin s m e) hn)) exp_nan
exp_finite s m e f false true u hn ho hu = exp_above (fin s m e) ho
exp_finite s m e f false false true hn ho hu = exp_below (fin s m e) hu
exp_finite s m e f false false false hn ho hu = of_value (exp_of (fin s m e)) near.units (2 ^ 1074) near.value
  where
    in_range : Between (fin s m e)
    in_range = record { holds = f; number = hn; not-over = ho; not-under = hu }

    near : Near s (m * up e) (down e) (exp_of (fin s m e))
    near = (exponential.promise).between (fin s m e) in_range s (m * up e) (down e) (down_pos e) (refl, refl)

-- a double's exponential
pub exp_unsigned : (x : Float) → T (fits binary64 x) → T (unsigned (exp_of x))
exp_unsigned nan f = exp_nan
exp_unsigned (inf false) f = exp_above (inf false) infinity_above
exp_unsigned (inf true) f = exp_below (inf true) infinity_below
exp_unsigned (fin s m e) f = exp_finite s m e f _ _ _ refl refl refl
