-- What an infinite logarithm makes of a product, a sum and the exponential: infinite all of them. Assumes nothing.
use mathlib.Core.Path.{◌≡◌, refl, sym, ap, ◌∙◌}
use mathlib.Core.Bool.{Bool, false, cond}
use Prim.Native.Nat.{ℕ, ◌*◌, ◌^◌, ◌<◌}
use native.Mathlib.Nat.{mul-pos, zero-mul}
use native.Mathlib.Omega.{arith}
use borrow.Author.Tests.{ne_eqb}
use lib.Count.{count_trailing_zeros}
use lib.Ieee.{Float, nan, inf, fin, up, down, unlike, add, mul, lt, of_bits, of_fields, odd}
use lib.Ieee.Fits.{down_pos}
use Rattle.double.specs.Operators.{◌⊕◌, ◌⊗◌}
use Rattle.double.specs.Fields.{Sized, Units}
use Rattle.exponential.specs.Steps.{exp_of}
use Rattle.exponential.proofs.Bound.{promise}

abbrev U : ℕ
U = 2 ^ 1074

pub mul_infinity : (w : Float) (W : ℕ) → 0 < W → Units w W → w ⊗ inf false ≡ inf false
unfolding mul
mul_infinity nan W p h = absurd h
mul_infinity (inf s) W p h = absurd h
mul_infinity (fin s m e) W p h =
    ap (λ (b : Bool). cond b nan (inf (unlike s false))) (ne_eqb m 0 some) ∙ ap (λ (b : Bool). inf (unlike b false)) h.0
  where
    some : m ≡ 0 → ⊥
    some z =
        none (W * down e) (mul-pos p (down_pos e)) (sym h.1 ∙ ap (λ (t : ℕ). t * up e * U) z ∙ ap (λ (t : ℕ). t * U) (zero-mul (up e))
        ∙ zero-mul U)
      where
        none : (x : ℕ) → 0 < x → x ≡ 0 → ⊥
        none x p e = omega arith

pub finite_and_infinite : (p : Float) (s : Bool) (n : ℕ) → Sized p s n → p ⊕ inf false ≡ inf false
unfolding add
finite_and_infinite nan s n h = absurd h
finite_and_infinite (inf i) s n h = absurd h
finite_and_infinite (fin i m e) s n h = refl

pub infinite_and_finite : (p : Float) (s : Bool) (n : ℕ) → Sized p s n → inf false ⊕ p ≡ inf false
unfolding add
infinite_and_finite nan s n h = absurd h
infinite_and_finite (inf i) s n h = absurd h
infinite_and_finite (fin i m e) s n h = refl

pub both_infinite : inf false ⊕ inf false ≡ inf false
unfolding add
both_infinite = refl

pub exp_infinity : exp_of (inf false) ≡ inf false
unfolding lt of_bits of_fields odd count_trailing_zeros
exp_infinity = promise.above_709 (inf false) refl
