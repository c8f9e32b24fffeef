-- Numbers whose sign is not set, a NaN counted among them, and what is made of such: every margin is one. Assumes nothing.
use mathlib.Core.Path.{◌≡◌, refl, sym, subst}
use mathlib.Core.Bool.{Bool, true, false, not, cond}
use Prim.Native.Nat.{ℕ, suc, ◌+◌, ◌*◌, ◌^◌, ◌≤◌}
use native.Mathlib.Nat.{zero-mul}
use native.Mathlib.Omega.{arith}
use lib.Dec.{T, ltb, eqb}
use lib.Count.{count_trailing_zeros}
use lib.Ieee.{Float, nan, inf, fin, Format, binary64, prec, emax, low, up, down, add, sum, mul, lt, round, units, odd, of_bits, of_fields}
use lib.Ieee.Exact.{HasValue, odd_sign}
use lib.Ieee.Fits.{round_is}
use borrow.Author.Tests.{le-ltb}
use Rattle.double.specs.Operators.{◌⊕◌, ◌⊗◌, ◌≺◌}
use Rattle.double.specs.Numbers.{#0, #1}
use Rattle.double.specs.Sizes.{abs_of}

abbrev pub unsigned : Float → Bool
unsigned nan = true
unsigned (inf s) = not s
unsigned (fin s m e) = not s

pub of_value : (x : Float) (a c : ℕ) → HasValue x false a c → T (unsigned x)
of_value nan a c h = absurd h
of_value (inf t) a c h = absurd h
of_value (fin t m e) a c h = subst (λ (s : Bool). T (not s)) (sym h.0) tt

units-unsigned : (f : Format) (q k : ℕ) → T (unsigned (units f false q k))
unfolding units
units-unsigned f q k = go (ltb (q * 2 ^ k) (2 ^ (low f + suc (emax f))))
  where
    go : (b : Bool) → T (unsigned (cond b (odd (suc (prec f)) false q k (low f)) (inf false)))
    go true = of_value (odd (suc (prec f)) false q k (low f)) (q * 2 ^ k) (2 ^ low f) (odd_sign (suc (prec f)) false q k (low f))
    go false = tt

pub round_unsigned : (f : Format) (n d : ℕ) → T (unsigned (round f false n d))
round_unsigned f n d = subst (λ (x : Float). T (unsigned x)) (sym (round_is f false n d)) (units-unsigned f _ _)

pub abs_unsigned : (x : Float) → T (unsigned (abs_of x))
unfolding abs_of
abs_unsigned nan = tt
abs_unsigned (inf s) = tt
abs_unsigned (fin s m e) = tt

pub add-unsigned : (x y : Float) → T (unsigned x) → T (unsigned y) → T (unsigned (x ⊕ y))
unfolding add sum
add-unsigned nan y a b = tt
add-unsigned (inf true) y a b = absurd a
add-unsigned (inf false) nan a b = tt
add-unsigned (inf false) (inf true) a b = absurd b
add-unsigned (inf false) (inf false) a b = tt
add-unsigned (inf false) (fin t n d) a b = tt
add-unsigned (fin true m e) y a b = absurd a
add-unsigned (fin false m e) nan a b = tt
add-unsigned (fin false m e) (inf t) a b = b
add-unsigned (fin false m e) (fin true n d) a b = absurd b
add-unsigned (fin false m e) (fin false n d) a b = round_unsigned binary64 (m * up e * down d + n * up d * down e) (down e * down d)

nothing-or : (b : Bool) → T (unsigned (cond b nan (inf false)))
nothing-or true = tt
nothing-or false = tt

pub mul-unsigned : (x y : Float) → T (unsigned x) → T (unsigned y) → T (unsigned (x ⊗ y))
unfolding mul
mul-unsigned nan y a b = tt
mul-unsigned (inf true) y a b = absurd a
mul-unsigned (inf false) nan a b = tt
mul-unsigned (inf false) (inf true) a b = absurd b
mul-unsigned (inf false) (inf false) a b = tt
mul-unsigned (inf false) (fin true n d) a b = absurd b
mul-unsigned (inf false) (fin false n d) a b = nothing-or (eqb n 0)
mul-unsigned (fin true m e) y a b = absurd a
mul-unsigned (fin false m e) nan a b = tt
mul-unsigned (fin false m e) (inf true) a b = absurd b
mul-unsigned (fin false m e) (inf false) a b = nothing-or (eqb m 0)
mul-unsigned (fin false m e) (fin true n d) a b = absurd b
mul-unsigned (fin false m e) (fin false n d) a b = round_unsigned binary64 (m * up e * (n * up d)) (down e * down d)

pub square_unsigned : (x : Float) → T (unsigned (x ⊗ x))
unfolding mul
square_unsigned nan = tt
square_unsigned (inf true) = tt
square_unsigned (inf false) = tt
square_unsigned (fin true m e) = round_unsigned binary64 (m * up e * (m * up e)) (down e * down e)
square_unsigned (fin false m e) = round_unsigned binary64 (m * up e * (m * up e)) (down e * down e)

pub of-above : (x : Float) → T (#0 ≺ x) → T (unsigned x)
unfolding lt of_bits
of-above nan h = absurd h
of-above (inf true) h = absurd h
of-above (inf false) h = tt
of-above (fin true m e) h = absurd h
of-above (fin false m e) h = tt

pub one-unsigned : T (unsigned #1)
unfolding of_bits of_fields odd count_trailing_zeros
one-unsigned = tt

pub not_below_zero : (x : Float) → T (unsigned x) → (x ≺ #0) ≡ false
unfolding lt of_bits
not_below_zero nan h = refl
not_below_zero (inf true) h = absurd h
not_below_zero (inf false) h = refl
not_below_zero (fin true m e) h = absurd h
not_below_zero (fin false m e) h =
    le-ltb (m * up e * 1) (0 * 1 * down e) (subst (λ (k : ℕ). k ≤ m * up e * 1) (sym (zero-mul (down e))) (omega arith))
