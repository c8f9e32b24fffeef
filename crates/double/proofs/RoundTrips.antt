-- From a double to its pattern and back, and from a pattern to its double and back. Assumes nothing.
use mathlib.Core.Path.{◌≡◌, refl, sym, ap, ◌∙◌}
use mathlib.Core.Bool.{Bool, true, cond}
use Prim.Native.Nat.{ℕ, ◌+◌, ◌-◌, ◌*◌, ◌/◌, ◌^◌, ◌<◌}
use native.Mathlib.Nat.{mul-div_cancel}
use lib.Dec.{T}
use lib.Ieee.{Float, nan, inf, fin, binary64, fits, is_nan, of_bits, to_bits, nan_bits, size, up, down}
use lib.Ieee.Bits.{of_bits-to_bits, to_bits-lt, nan_bits_is}
use lib.Ieee.Fits.{down_pos}
use Rattle.arith.proofs.Branches.{false_not_true}
use Rattle.double.specs.Fields.{Sized}

-- a pattern fits 64 bits
pub pattern_lt : (x : Float) → T (fits binary64 x) → to_bits binary64 x < 2 ^ 64
pattern_lt x F = to_bits-lt binary64 x F

-- a double, NaN included, is the double of its pattern
pub double_back : (x : Float) → T (fits binary64 x) → of_bits binary64 (to_bits binary64 x) ≡ x
double_back x F = of_bits-to_bits binary64 x F

-- the pattern by the sign and the units
pattern_of : Bool → ℕ → ℕ
pattern_of s n = let k = size n - 53 in cond s (2 ^ 63) 0 + k * 2 ^ 52 + n / 2 ^ k

pattern_of_size : (x : Float) (s : Bool) (n : ℕ) → Sized x s n → to_bits binary64 x ≡ pattern_of s n
unfolding to_bits pattern_of
pattern_of_size nan s n h = absurd h
pattern_of_size (inf r) s n h = absurd h
pattern_of_size (fin r m e) s n h =
    ap (λ (t : Bool). pattern_of t (m * up e * 2 ^ 1074 / down e)) h.0
    ∙ ap (pattern_of s) (ap (λ (a : ℕ). a / down e) h.1 ∙ mul-div_cancel n (down_pos e))

-- doubles with one pattern are one double
pub same_pattern : (x y : Float) → T (fits binary64 x) → T (fits binary64 y) → to_bits binary64 x ≡ to_bits binary64 y → x ≡ y
same_pattern x y F G e = sym (double_back x F) ∙ ap (of_bits binary64) e ∙ double_back y G

-- one sign and one size make one double
pub same_size : (x y : Float) (s : Bool) (n : ℕ) → T (fits binary64 x) → T (fits binary64 y) → Sized x s n → Sized y s n → x ≡ y
same_size x y s n F G h k = same_pattern x y F G (pattern_of_size x s n h ∙ sym (pattern_of_size y s n k))

is_nan_lem : (x : Float) → is_nan x ≡ true → x ≡ nan
unfolding is_nan
is_nan_lem nan e = refl
is_nan_lem (inf s) e = absurd (false_not_true e)
is_nan_lem (fin s m k) e = absurd (false_not_true e)

pub nan_of_pattern : (b : ℕ) → nan_bits binary64 b ≡ true → of_bits binary64 b ≡ nan
nan_of_pattern b n = is_nan_lem (of_bits binary64 b) (sym (nan_bits_is binary64 b) ∙ n)
