-- The exponential by the class of its argument, and document 01's cases of it. Assumes nothing.
use Rattle.std.proofs.Common.{◌≡◌, ℕ, zero, ◌+◌, ◌-◌, ◌*◌, ◌/◌, ◌^◌, ◌<◌, ◌≤◌, Bool, true, false, T, ◌⊎◌, pos, sym, refl, ap, ◌∙◌, subst, inl, inr, le_trans, lt_trans, le_of_lt, eq-zero-or-pos, arith, lit<, lit≤, shl_lt}
use native.Mathlib.Nat.{div-eq_of_lt}
use lib.Pow.{pow-lt}
use lib.Ieee.{Float, nan, inf, fin, binary64, fits, of_bits, of_fields, to_bits, neg, ne, lt}
use Rattle.arith.proofs.Branches.{false_not_true}
use Rattle.arith.proofs.Quotients.{up_of_small}
use Rattle.double.specs.Operators.{◌≺◌}
use Rattle.double.specs.Numbers.{#0, #1, #708, #709}
use Rattle.double.specs.Fields.{sign_of, field_of, digits_of, mag, Sized}
use Rattle.double.proofs.Fields.{by_fields, digits_lt, low_value, measured}
use Rattle.double.proofs.NotNan.{nan_of}
use Rattle.exponential.specs.Steps.{home, raised, exp_at, exp_of}
use Rattle.exponential.proofs.Ends.{not-over, not-under, under_not_over}

-- ---- numbers and NaN

number : (x : Float) → (x ≡ nan → ⊥) → ne x x ≡ false
number x h = go (ne x x) refl
  where
    go : (b : Bool) → ne x x ≡ b → ne x x ≡ false
    go false e = e
    go true e = absurd (h (nan_of x e))

-- NaN is of the class 2047
top_of_nan : field_of (to_bits binary64 nan) ≡ 2047
unfolding to_bits
top_of_nan = refl

pub number_of_class : (x : Float) → field_of (to_bits binary64 x) < 2047 → ne x x ≡ false
number_of_class x h =
    number x (λ (e : x ≡ nan). go (field_of (to_bits binary64 x)) h (ap (λ (y : Float). field_of (to_bits binary64 y)) e ∙ top_of_nan))
  where
    go : (f : ℕ) → f < 2047 → f ≡ 2047 → ⊥
    go f l e = omega arith

-- ---- 01's cases

-- "NaN gives NaN"
pub of_nan : exp_of nan ≡ nan
unfolding exp_of
of_nan = refl

-- "above 709 gives +infinity"
pub above_709 : (x : Float) → (#709 ≺ x) ≡ true → inf false ≡ exp_of x
unfolding exp_of lt of_bits
above_709 x h = simp (number x no_nan, h)
  where
    no_nan : x ≡ nan → ⊥
    no_nan e = false_not_true (sym (ap (λ (y : Float). #709 ≺ y) e) ∙ h)

-- "below -708 gives +0"
pub below_708 : (x : Float) → (x ≺ neg #708) ≡ true → #0 ≡ exp_of x
unfolding exp_of lt neg
below_708 x h = simp (number x no_nan, under_not_over x h, h)
  where
    no_nan : x ≡ nan → ⊥
    no_nan e = false_not_true (sym (ap (λ (y : Float). y ≺ neg #708) e) ∙ h)

-- "exp 0 is 1", for both zeros
pub of_zero : (s : Bool) → exp_of (fin s 0 (pos 0)) ≡ #1
unfolding exp_of of_bits lt neg
of_zero true = refl
of_zero false = refl

-- "Between": the steps
pub between : (x : Float) → ne x x ≡ false → (#709 ≺ x) ≡ false → (x ≺ neg #708) ≡ false
    → exp_at (raised (sign_of (to_bits binary64 x)) (mag (field_of (to_bits binary64 x)) (digits_of (to_bits binary64 x))) (2 ^ 1074)) ≡ exp_of x
unfolding exp_of
between x a b c = simp (a, b, c)

-- ---- the class 0: all of it is so near 0 that the answer is 1

at_home : exp_at (home * 2048) ≡ #1
unfolding exp_at of_bits
at_home = refl

at_home_less : exp_at (home * 2048 - 1) ≡ #1
unfolding exp_at of_bits
at_home_less = refl

tiny : (t : ℕ) → t < 2 ^ 52 → t * 2 ^ 64 < 2 ^ 1074
tiny t h = lt_trans (shl_lt 52 64 h) (pow-lt {i = 116} {j = 1074} (lit< tt))

one_at : (s : Bool) (t : ℕ) → t < 2 ^ 52 → exp_at (raised s t (2 ^ 1074)) ≡ #1
unfolding raised
one_at false t h = ap (λ (n : ℕ). exp_at (home * 2048 + n)) (div-eq_of_lt (tiny t h)) ∙ at_home
one_at true t h = go (eq-zero-or-pos t)
  where
    positive : (t : ℕ) → 0 < t → 0 < t * 2 ^ 64
    positive t p = omega arith

    go : (t ≡ zero) ⊎ (zero < t) → exp_at (home * 2048 - (t * 2 ^ 64 + (2 ^ 1074 - 1)) / 2 ^ 1074) ≡ #1
    go (inl e) = ap (λ (n : ℕ). exp_at (home * 2048 - (n * 2 ^ 64 + (2 ^ 1074 - 1)) / 2 ^ 1074)) e ∙ at_home
    go (inr p) =
        ap (λ (n : ℕ). exp_at (home * 2048 - n)) (sym (up_of_small (2 ^ 1074) (t * 2 ^ 64) (positive t p) (le_of_lt (tiny t h))))
        ∙ at_home_less

pub class_0 : (x : Float) → T (fits binary64 x) → field_of (to_bits binary64 x) ≡ 0 → #1 ≡ exp_of x
unfolding mag
class_0 x F e =
    let b = to_bits binary64 x in
    let t = digits_of b in
    let v : Sized x (sign_of b) t = subst (λ (y : Float). Sized y (sign_of b) t)
    (sym (ap (λ (f : ℕ). of_fields binary64 (sign_of b) f t) e) ∙ by_fields x F) (low_value (sign_of b) t) in
    let small : t ≤ 708 * 2 ^ 1074 = le_trans (le_of_lt (lt_trans (digits_lt b) (pow-lt {i = 52} {j = 1074} (lit< tt)))) (lit≤ tt) in
    let small' : t ≤ 709 * 2 ^ 1074 = le_trans small (lit≤ tt) in
    sym (one_at (sign_of b) t (digits_lt b)) ∙ ap (λ (f : ℕ). exp_at (raised (sign_of b) (mag f t) (2 ^ 1074))) (sym e)
    ∙ between x (number_of_class x (subst (λ (f : ℕ). f < 2047) (sym e) (lit< tt)))
    (not-over x (sign_of b) t (2 ^ 1074) (lit< tt) v small') (not-under x (sign_of b) t (2 ^ 1074) (lit< tt) v small)

-- ---- the class 2047: the infinities and NaN

not_top : (s : Bool) (m : ℕ) (e : lib.IntN.ℤ) → T (fits binary64 (fin s m e)) → field_of (to_bits binary64 (fin s m e)) ≡ 2047 → ⊥
not_top s m e F h = go (field_of (to_bits binary64 (fin s m e))) (measured (fin s m e) F tt).field h
  where
    go : (f : ℕ) → f < 2047 → f ≡ 2047 → ⊥
    go f l e = omega arith

pub top_positive : (x : Float) → T (fits binary64 x) → field_of (to_bits binary64 x) ≡ 2047 → (#0 ≺ x) ≡ true → x ≡ exp_of x
unfolding exp_of of_bits lt
top_positive nan F e h = absurd (false_not_true h)
top_positive (inf true) F e h = absurd (false_not_true h)
top_positive (inf false) F e h = refl
top_positive (fin s m d) F e h = absurd (not_top s m d F e)

pub top_negative : (x : Float) → T (fits binary64 x) → field_of (to_bits binary64 x) ≡ 2047 → (x ≺ #0) ≡ true → #0 ≡ exp_of x
unfolding exp_of of_bits lt neg
top_negative nan F e h = absurd (false_not_true h)
top_negative (inf true) F e h = refl
top_negative (inf false) F e h = absurd (false_not_true h)
top_negative (fin s m d) F e h = absurd (not_top s m d F e)

pub top_else : (x : Float) → T (fits binary64 x) → field_of (to_bits binary64 x) ≡ 2047 → (#0 ≺ x) ≡ false → (x ≺ #0) ≡ false → nan ≡ exp_of x
unfolding exp_of of_bits lt
top_else nan F e h l = refl
top_else (inf true) F e h l = absurd (false_not_true (sym l))
top_else (inf false) F e h l = absurd (false_not_true (sym h))
top_else (fin s m d) F e h l = absurd (not_top s m d F e)
