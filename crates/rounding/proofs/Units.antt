-- A value that its format holds is a whole number of units, and `<` on two such values is `<` on their units. Assumes nothing.
use mathlib.Core.Path.{◌≡◌, refl, sym, ap, ◌∙◌, subst}
use Prim.Native.Nat.{ℕ, zero, suc, ◌+◌, ◌-◌, ◌*◌, ◌/◌, ◌%◌, ◌^◌, ◌≤◌, ◌<◌}
use native.Mathlib.Nat.{lt_of_not-le, not-le_of_lt, mul_comm, mul_assoc, mul_right_comm, mul-one, div-one, mul-div_cancel, mul-le-mul_right}
use native.Mathlib.Nat.{mul-lt-mul_of_pos_right, mul-pos}
use native.Mathlib.Omega.{arith}
use mathlib.Core.Bool.{Bool, true, false, ◌&&◌, true≢false}
use lib.IntN.{ℤ, pos, negsuc}
use lib.Dec.{T, ltb, leb, eqb, leb→le, ltb→lt, lt→ltb}
use lib.Pow.{pow-add, pow_pos, pow-lt}
use lib.Ieee.{Float, nan, inf, fin, Format, prec, emax, low, up, down, lt, fits}
use lib.Ieee.Fits.{down_pos, and_l, and_r}
use lib.Ieee.Scale.{overflow}
use lib.Ieee.Positive.{den, den_pos, positive, value→cross}
use Rattle.rounding.specs.Units.{units_of, IsUnits}

-- the number of units is the only one
pub units_of_lem : (f : Format) (x : Float) (g : ℕ) → IsUnits f x g → units_of f x ≡ g
units_of_lem f x g h = ap (λ (z : ℕ). z / den x) (value→cross x g (2 ^ low f) h) ∙ mul-div_cancel g (den_pos x)

-- ---- a value that the format holds is a whole number of units

exponents-le : (a b : ℕ) → 2 ^ a ≤ 2 ^ b → a ≤ b
exponents-le a b h = le_of_not_lt (λ (g : b < a). not-le_of_lt (pow-lt g) h)
  where
    le_of_not_lt : (b < a → ⊥) → a ≤ b
    le_of_not_lt n = omega arith

back : (a l : ℕ) → a ≤ l → l - a + a ≡ l
back a l h = omega arith

-- the denominator divides the units of 1
whole : (l n : ℕ) (e : ℤ) → down e ≤ 2 ^ l → n * 2 ^ l ≡ n * 2 ^ l / down e * down e
whole l n (pos k) h = sym (mul-one (n * 2 ^ l / 1) ∙ div-one (n * 2 ^ l))
whole l n (negsuc k) h =
    let j = l - suc k in
    let e : n * 2 ^ l ≡ n * 2 ^ j * 2 ^ suc k = ap (λ (z : ℕ). n * 2 ^ z) (sym (back (suc k) l (exponents-le (suc k) l h)))
    ∙ ap (λ (z : ℕ). n * z) (pow-add 2 j (suc k)) ∙ sym (mul_assoc n (2 ^ j) (2 ^ suc k)) in
    e ∙ ap (λ (z : ℕ). z * 2 ^ suc k) (sym (ap (λ (z : ℕ). z / 2 ^ suc k) e ∙ mul-div_cancel (n * 2 ^ j) (pow_pos (suc k))))

fits_down : (f : Format) (m : ℕ) (e : ℤ) → T (fits f (fin false (suc m) e)) → down e ≤ 2 ^ low f
unfolding fits
fits_down f m e t =
    let a : Bool = eqb (suc m % 2) 1 && ltb (suc m) (2 ^ prec f) in
    let c : Bool = leb (down e) (2 ^ low f) in
    leb→le (down e) (2 ^ low f) (and_r a c (and_l (a && c) (ltb (suc m * up e) (2 ^ suc (emax f) * down e)) t))

fits_top : (f : Format) (m : ℕ) (e : ℤ) → T (fits f (fin false (suc m) e)) → suc m * up e < 2 ^ suc (emax f) * down e
unfolding fits
fits_top f m e t =
    let a : Bool = eqb (suc m % 2) 1 && ltb (suc m) (2 ^ prec f) && leb (down e) (2 ^ low f) in
    ltb→lt (suc m * up e) (2 ^ suc (emax f) * down e) (and_r a (ltb (suc m * up e) (2 ^ suc (emax f) * down e)) t)

pub is-units : (f : Format) (x : Float) → T (fits f x) → T (positive x) → IsUnits f x (units_of f x)
is-units f nan t p = absurd p
is-units f (inf s) t p = absurd p
is-units f (fin true m e) t p = absurd p
is-units f (fin false zero e) t p = absurd p
is-units f (fin false (suc m) e) t p = (refl, whole (low f) (suc m * up e) e (fits_down f m e t))

lt_of_mul_lt : (a b k : ℕ) → a * k < b * k → a < b
lt_of_mul_lt a b k h = lt_of_not-le (λ (g : b ≤ a). not-le_of_lt h (mul-le-mul_right k g))

-- and fewer than those from which on a result is an infinity
pub units_under : (f : Format) (x : Float) → T (fits f x) → T (positive x) → units_of f x < overflow f
units_under f nan t p = absurd p
units_under f (inf s) t p = absurd p
units_under f (fin true m e) t p = absurd p
units_under f (fin false zero e) t p = absurd p
units_under f (fin false (suc m) e) t p =
    let n = suc m * up e in
    let a : n * 2 ^ low f < 2 ^ suc (emax f) * down e * 2 ^ low f = mul-lt-mul_of_pos_right (fits_top f m e t) (pow_pos (low f)) in
    let b : n * 2 ^ low f ≡ units_of f (fin false (suc m) e) * down e = whole (low f) n e (fits_down f m e t) in
    let c : 2 ^ suc (emax f) * down e * 2 ^ low f ≡ overflow f * down e = mul_right_comm (2 ^ suc (emax f)) (down e) (2 ^ low f)
    ∙ ap (λ (z : ℕ). z * down e) (mul_comm (2 ^ suc (emax f)) (2 ^ low f) ∙ sym (pow-add 2 (low f) (suc (emax f)))) in
    lt_of_mul_lt (units_of f (fin false (suc m) e)) (overflow f) (down e)
    (subst (λ (z : ℕ). units_of f (fin false (suc m) e) * down e < z) c (subst (λ (z : ℕ). z < 2 ^ suc (emax f) * down e * 2 ^ low f) b a))

-- ---- `<` on two such values is `<` on their units

-- two fractions u / e and v / d, of a and b units where P units are 1, over their common denominator
common : (u v a b P d e : ℕ) → u * P ≡ a * e → v * P ≡ b * d → (u * d * P ≡ a * (e * d)) × (v * e * P ≡ b * (e * d))
common u v a b P d e p q = (
  mul_right_comm u d P ∙ ap (λ (z : ℕ). z * d) p ∙ mul_assoc a e d,
  mul_right_comm v e P ∙ ap (λ (z : ℕ). z * e) q ∙ mul_right_comm b d e
      ∙ mul_assoc b e d,
)

fractions_lt : (u v a b P d e : ℕ) → 0 < d → 0 < e → u * P ≡ a * e → v * P ≡ b * d → a < b → u * d < v * e
fractions_lt u v a b P d e D E p q h =
    let c = common u v a b P d e p q in
    lt_of_mul_lt (u * d) (v * e) P (rw (c.0, c.1) (mul-lt-mul_of_pos_right h (mul-pos E D)))

units_lt : (u v a b P d e : ℕ) → 0 < P → u * P ≡ a * e → v * P ≡ b * d → u * d < v * e → a < b
units_lt u v a b P d e X p q h =
    let c = common u v a b P d e p q in
    lt_of_mul_lt a b (e * d) (rw (← c.0, ← c.1) (mul-lt-mul_of_pos_right h X))

pub lt_of_units : (f : Format) (x y : Float) (a b : ℕ) → IsUnits f x a → IsUnits f y b → a < b → T (lt x y)
unfolding lt
lt_of_units f nan y a b p q h = absurd p
lt_of_units f (inf s) y a b p q h = absurd p
lt_of_units f (fin true m e) y a b p q h = absurd (true≢false p.0)
lt_of_units f (fin false m e) nan a b p q h = absurd q
lt_of_units f (fin false m e) (inf t) a b p q h = absurd q
lt_of_units f (fin false m e) (fin true n d) a b p q h = absurd (true≢false q.0)
lt_of_units f (fin false m e) (fin false n d) a b p q h =
    lt→ltb (m * up e * down d) (n * up d * down e)
    (fractions_lt (m * up e) (n * up d) a b (2 ^ low f) (down d) (down e) (down_pos d) (down_pos e) p.1 q.1 h)

pub units_of_lt : (f : Format) (x y : Float) (a b : ℕ) → IsUnits f x a → IsUnits f y b → T (lt x y) → a < b
unfolding lt
units_of_lt f nan y a b p q h = absurd p
units_of_lt f (inf s) y a b p q h = absurd p
units_of_lt f (fin true m e) y a b p q h = absurd (true≢false p.0)
units_of_lt f (fin false m e) nan a b p q h = absurd q
units_of_lt f (fin false m e) (inf t) a b p q h = absurd q
units_of_lt f (fin false m e) (fin true n d) a b p q h = absurd (true≢false q.0)
units_of_lt f (fin false m e) (fin false n d) a b p q h =
    units_lt (m * up e) (n * up d) a b (2 ^ low f) (down d) (down e) (pow_pos (low f)) p.1 q.1
    (ltb→lt (m * up e * down d) (n * up d * down e) h)
