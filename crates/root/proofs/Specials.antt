-- The other cases of the square root: NaN, both infinities, both zeros, negative numbers. Assumes nothing.
use mathlib.Core.Path.{◌≡◌, refl, subst, ◌∙◌}
use mathlib.Core.Bool.{true, false}
use Prim.Native.Nat.{ℕ, ◌^◌, ◌<◌}
use native.Mathlib.Nat.{lt_irrefl}
use borrow.Author.Tests.{leb-true}
use lib.Dec.{T}
use lib.Ieee.{Float, nan, inf, binary64, fits, is_nan, size, span, climb, to_bits, of_bits}
use Rattle.double.specs.Fields.{field_of, digits_of, Sized, mag}
use Rattle.double.proofs.Fields.{read}
use Rattle.double.proofs.NotNan.{no_nan_of_value}
use Rattle.root.specs.Steps.{sqrt_fields, sqrt_bits, sqrt_of}
use Rattle.root.proofs.Cases.{by_bits, of_negative}

pub sqrt_of_nan : sqrt_of nan ≡ nan
unfolding sqrt_of is_nan
sqrt_of_nan = refl

pub sqrt_of_infinity : sqrt_of (inf false) ≡ inf false
unfolding sqrt_of sqrt_bits sqrt_fields is_nan to_bits
sqrt_of_infinity = refl

pub sqrt_of_minus_infinity : sqrt_of (inf true) ≡ nan
unfolding sqrt_of sqrt_bits is_nan to_bits
sqrt_of_minus_infinity = refl

pub sqrt_of_plus_zero : sqrt_of (of_bits binary64 0) ≡ of_bits binary64 0
unfolding sqrt_of sqrt_bits sqrt_fields is_nan to_bits of_bits size span climb
sqrt_of_plus_zero = refl

pub sqrt_of_minus_zero : sqrt_of (of_bits binary64 0x8000_0000_0000_0000) ≡ of_bits binary64 0x8000_0000_0000_0000
unfolding sqrt_of sqrt_bits is_nan to_bits of_bits size span climb
sqrt_of_minus_zero = refl

-- a negative number has a size, and -0, whose pattern is 2^63, has none
sized-pattern : (b n : ℕ) → n ≡ mag (field_of b) (digits_of b) → 0 < n → b ≡ 2 ^ 63 → ⊥
unfolding mag
sized-pattern b n e p z = lt_irrefl 0 (subst (λ (a : ℕ). 0 < mag (field_of a) (digits_of a)) z (subst (λ (a : ℕ). 0 < a) e p))

pub sqrt_of_negative : (x : Float) (n : ℕ) → T (fits binary64 x) → Sized x true n → 0 < n → sqrt_of x ≡ nan
sqrt_of_negative x n F u p =
    let b = to_bits binary64 x in
    let r = read x true n F u in
    by_bits x (no_nan_of_value x true n (2 ^ 1074) u) ∙ of_negative x b (leb-true (2 ^ 63) b r.sign) (sized-pattern b n r.size p)
