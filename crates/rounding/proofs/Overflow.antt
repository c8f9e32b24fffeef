-- What overflows is an infinity and no NaN: a rounded fraction is a number, a product of finite numbers is one, and so is the sum of a
-- finite number and any number. Assumes nothing.
use Prim.Native.Nat.{ℕ, suc, ◌+◌, ◌-◌, ◌*◌, ◌^◌}
use mathlib.Core.Path.{sym, subst}
use mathlib.Core.Bool.{Bool, true, false, not, cond, ◌&&◌, beq}
use lib.Dec.{T, ltb}
use lib.Ieee.{Float, nan, inf, fin, Format, low, prec, emax, up, down, unlike, odd, units, round, sum, add, mul, is_nan}
use lib.Ieee.Exact.{HasValue, odd_sign}
use lib.Ieee.Fits.{round_is}
use lib.Ieee.Scale.{finite}

number_of_value : (x : Float) (s : Bool) (a c : ℕ) → HasValue x s a c → T (not (is_nan x))
unfolding is_nan
number_of_value nan s a c h = absurd h
number_of_value (inf t) s a c h = absurd h
number_of_value (fin t m e) s a c h = tt

units_number : (f : Format) (s : Bool) (q k : ℕ) → T (not (is_nan (units f s q k)))
unfolding units is_nan
units_number f s q k = go (ltb (q * 2 ^ k) (2 ^ (low f + suc (emax f))))
  where
    go : (b : Bool) → T (not (is_nan (cond b (odd (suc (prec f)) s q k (low f)) (inf s))))
    go true = number_of_value (odd (suc (prec f)) s q k (low f)) s (q * 2 ^ k) (2 ^ low f) (odd_sign (suc (prec f)) s q k (low f))
    go false = tt

pub round_number : (f : Format) (s : Bool) (n d : ℕ) → T (not (is_nan (round f s n d)))
round_number f s n d = subst (λ (x : Float). T (not (is_nan x))) (sym (round_is f s n d)) (units_number f s _ _)

pub mul-number : (f : Format) (x y : Float) → T (finite x) → T (finite y) → T (not (is_nan (mul f x y)))
unfolding mul
mul-number f nan y a b = absurd a
mul-number f (inf s) y a b = absurd a
mul-number f (fin s m e) nan a b = absurd b
mul-number f (fin s m e) (inf t) a b = absurd b
mul-number f (fin s m e) (fin t n d) a b = round_number f (unlike s t) (m * up e * (n * up d)) (down e * down d)

sum_number : (f : Format) (s : Bool) (a : ℕ) (t : Bool) (b c : ℕ) → T (not (is_nan (sum f s a t b c)))
unfolding sum
sum_number f s a t b c = go (beq s t) (ltb a b)
  where
    go : (x y : Bool) → T (not (is_nan (cond x (round f s (a + b) c) (cond y (round f t (b - a) c) (round f (s && ltb b a) (a - b) c)))))
    go true y = round_number f s (a + b) c
    go false true = round_number f t (b - a) c
    go false false = round_number f (s && ltb b a) (a - b) c

pub add-number : (f : Format) (x y : Float) → T (finite x) → T (not (is_nan y)) → T (not (is_nan (add f x y)))
unfolding add is_nan
add-number f nan y a b = absurd a
add-number f (inf s) y a b = absurd a
add-number f (fin s m e) nan a b = absurd b
add-number f (fin s m e) (inf t) a b = tt
add-number f (fin s m e) (fin t n d) a b = sum_number f s (m * up e * down d) t (n * up d * down e) (down e * down d)
