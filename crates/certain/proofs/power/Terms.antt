-- A logarithm near L, a weight times it, and the rounded sum of two such: the errors in parts of 2^52·U, where U units are 1. Assumes
-- nothing.
use mathlib.Core.Path.{◌≡◌, ap, subst}
use mathlib.Core.Bool.{Bool, true, false}
use Prim.Native.Nat.{ℕ, ◌+◌, ◌-◌, ◌*◌, ◌^◌, ◌≤◌, ◌<◌, max}
use native.Mathlib.Nat.{le_trans, le_of_eq, mul-pos, mul-le-mul, mul-le-mul_right, le_of_mul-le-mul_right, max-le, add_comm}
use native.Mathlib.Nat.{le_of_mul-le-mul_left}
use native.Mathlib.Omega.{arith}
use lib.Dec.{lit≤}
use lib.Pow.{pow_pos}
use lib.Ieee.{Float, binary64}
use Rattle.double.specs.Operators.{◌⊕◌, ◌⊗◌}
use Rattle.double.specs.Fields.{Sized, Units}
use Rattle.rounding.specs.Within.{Within}
use Rattle.rounding.specs.errors.Errors.{above, below}
use Rattle.rounding.proofs.errors.Multiplied.{Multiplied, mul_near}
use Rattle.rounding.proofs.errors.Added.{Added, add_near}
use Rattle.series.specs.Series.{Signed}
use Rattle.logarithm.specs.Bound.{Close}
use Rattle.series.specs.change.SignedArithmetic.{times}
use Rattle.certain.proofs.ExactCoordinates.{in_units}
use Rattle.certain.proofs.Residues.{signed_product, unlike_false}
use Rattle.certain.specs.power.Numbers.{sum}
use Rattle.certain.proofs.power.Distances.{Near, through, beside, factor, finer, weaker}

-- ---- the logarithm

-- L is at most 719 in size, l within 720·2^-44 of it
pub record Logged (l : Float) (x : Signed) : Type 0 where
  pub sign : Bool
  pub units : ℕ
  pub is : Sized l sign units
  pub near : Near (2 ^ 52) 184320 x (in_units sign units)
  pub size : units ≤ 725 * 2 ^ 1074

close_shape : (a o U X M : ℕ) {b : ℕ} → X ≤ M * o → b ≤ a + X * U → b ≤ a + M * (o * U)
close_shape a o U X M {b} m h = le_trans h (more (X * U) (M * (o * U)) (le_trans (mul-le-mul_right U m) (le_of_eq (regrouped M o U))))
  where
    regrouped : (M o U : ℕ) → M * o * U ≡ M * (o * U)
    regrouped M o U = omega arith

    more : (x y : ℕ) → x ≤ y → a + x ≤ a + y
    more x y h = omega arith

-- max(1, |y|)
most-of : (o p m M : ℕ) → 1 ≤ M → p + m ≤ M * o → max o (p - m + (m - p)) ≤ M * o
most-of o p m M one h = max-le (least o M (mul-le-mul_right o one)) (size p m (M * o) h)
  where
    least : (o M : ℕ) → 1 * o ≤ M * o → o ≤ M * o
    least o M h = omega arith

    size : (p m z : ℕ) → p + m ≤ z → p - m + (m - p) ≤ z
    size p m z h = omega arith

-- |l| by |x|
log-size :
    (s : Bool) (n : ℕ) (x : Signed) → 0 < x.over → x.plus + x.less ≤ 719 * x.over → Near (2 ^ 52) 184320 x (in_units s n)
    → n ≤ 725 * 2 ^ 1074
log-size false n x px small h = shape n x.plus x.less x.over (2 ^ 1074) px small h.ahead
  where
    shape :
        (n p m o U : ℕ) → 0 < o → p + m ≤ 719 * o → 2 ^ 52 * (n * o + m * U) ≤ 2 ^ 52 * (p * U + 0 * o) + 184320 * (o * U) → n ≤ 725 * U
    shape n p m o U po l h =
        le_of_mul-le-mul_right {k = o} (go (n * o) (p * U) (m * U) (o * U) (split (mul-le-mul_right U l)) h (regrouped U o)) po
      where
        split : (p + m) * U ≤ 719 * o * U → p * U + m * U ≤ 719 * (o * U)
        split h = omega arith

        regrouped : (U o : ℕ) → 725 * U * o ≡ 725 * (o * U)
        regrouped U o = omega arith

        go : {X : ℕ} (a b c d : ℕ) → b + c ≤ 719 * d → 2 ^ 52 * (a + c) ≤ 2 ^ 52 * (b + 0 * o) + 184320 * d → X ≡ 725 * d → a ≤ X
        go a b c d i j e = omega arith
log-size true n x px small h = shape n x.plus x.less x.over (2 ^ 1074) px small h.behind
  where
    shape :
        (n p m o U : ℕ) → 0 < o → p + m ≤ 719 * o → 2 ^ 52 * (p * U + n * o) ≤ 2 ^ 52 * (0 * o + m * U) + 184320 * (U * o) → n ≤ 725 * U
    shape n p m o U po l h =
        le_of_mul-le-mul_right {k = o} (go (n * o) (p * U) (m * U) (o * U) (split (mul-le-mul_right U l)) h (flip U o) (regrouped U o)) po
      where
        split : (p + m) * U ≤ 719 * o * U → p * U + m * U ≤ 719 * (o * U)
        split h = omega arith

        flip : (U o : ℕ) → U * o ≡ o * U
        flip U o = omega arith

        regrouped : (U o : ℕ) → 725 * U * o ≡ 725 * (o * U)
        regrouped U o = omega arith

        go :
            {X Y : ℕ} (a b c d : ℕ) → b + c ≤ 719 * d → 2 ^ 52 * (b + a) ≤ 2 ^ 52 * (0 * o + c) + 184320 * Y → Y ≡ d → X ≡ 725 * d → a ≤ X
        go a b c d i j e f = omega arith

module _ (l : Float) (x y : Signed) (c : Close l y) (py : 0 < y.over) (most : y.plus + y.less ≤ 719 * y.over) where
  abbrev lp : ℕ
  lp = above c.sign c.units

  abbrev lm : ℕ
  lm = below c.sign c.units

  in_parts : Near (2 ^ 44) 719 y (in_units c.sign c.units)
  in_parts = record {
    ahead =
        swapped _ _ _ _ (close_shape (2 ^ 44 * (lm * y.over + y.plus * 2 ^ 1074)) y.over (2 ^ 1074) _ 719
        (most-of y.over y.plus y.less 719 (lit≤ tt) most) c.distance.not-above);
    behind =
        swapped' y.over (2 ^ 1074) (2 ^ 44 * (lp * y.over + y.less * 2 ^ 1074)) _ _
        (close_shape (2 ^ 44 * (lp * y.over + y.less * 2 ^ 1074)) y.over (2 ^ 1074) _ 719
        (most-of y.over y.plus y.less 719 (lit≤ tt) most) c.distance.not-below);
  }
    where
      swapped : (a b c e : ℕ) → a ≤ 2 ^ 44 * (b + c) + e → a ≤ 2 ^ 44 * (c + b) + e
      swapped a b c e h = omega arith

      swapped' : (o U a b c : ℕ) → 2 ^ 44 * (b + c) ≤ a + 719 * (o * U) → 2 ^ 44 * (c + b) ≤ a + 719 * (U * o)
      swapped' o U a b c h = omega arith

  pub logged : Near (2 ^ 52) 3 x y → x.plus + x.less ≤ 719 * x.over → 0 < x.over → Logged l x
  logged moved small px = record {
    sign = c.sign;
    units = c.units;
    is = c.value;
    near = near;
    size = log-size c.sign c.units x px small near;
  }
    where
      near : Near (2 ^ 52) 184320 x (in_units c.sign c.units)
      near = weaker (2 ^ 52) _ 184320 (lit≤ tt) (through py moved (finer (2 ^ 8) in_parts))

-- ---- a weight times a logarithm

-- p is near x: at most E parts of 2^52·U apart
pub record Term (p : Float) (x : Signed) (E : ℕ) : Type 0 where
  pub sign : Bool
  pub units : ℕ
  pub is : Sized p sign units
  pub near : Near (2 ^ 52 * 2 ^ 1074) E x (in_units sign units)

-- W up to 3 and h up to 725 lose at most 1088 parts
product_error : (W h U : ℕ) → 2 ^ 52 ≤ U → W ≤ 3 * U → h ≤ 725 * U → W * h + 2 ^ 52 * U ≤ 2 * (1088 * (U * U))
product_error W h U big w l = go (W * h) (U * U) (mul-le-mul w l) (mul-le-mul_right U big)
  where
    go : (x y : ℕ) → x ≤ 3 * U * (725 * U) → 2 ^ 52 * U ≤ U * U → x + 2 ^ 52 * U ≤ 2 * (1088 * (U * U))
    go x y i j = omega arith

-- 2^53·a is at most 2^53·b and an error e, v times that; half the error in parts of 2^52
scaled-parts :
    (a b e f v X Y Z : ℕ) → 2 ^ 53 * a ≤ 2 ^ 53 * b + e → e ≤ 2 * f → X ≡ 2 ^ 52 * (a * v) → Y ≡ 2 ^ 52 * (b * v) → Z ≡ f * v
    → X ≤ Y + Z
scaled-parts a b e f v X Y Z h g i j k =
    rw (i, j, k) (last (a * v) (b * v) (e * v) (f * v) (spread (mul-le-mul_right v h)) (spread' (mul-le-mul_right v g)))
  where
    spread : 2 ^ 53 * a * v ≤ (2 ^ 53 * b + e) * v → 2 ^ 53 * (a * v) ≤ 2 ^ 53 * (b * v) + e * v
    spread h = omega arith

    spread' : e * v ≤ 2 * f * v → e * v ≤ 2 * (f * v)
    spread' h = omega arith

    last : (a b e f : ℕ) → 2 ^ 53 * a ≤ 2 ^ 53 * b + e → e ≤ 2 * f → 2 ^ 52 * a ≤ 2 ^ 52 * b + f
    last a b e f h g = omega arith

product_shape :
    (np nm W lp lm U e : ℕ) → e ≤ 2 * (1088 * (U * U)) → 2 ^ 53 * (np * U + W * lm) ≤ 2 ^ 53 * (nm * U + W * lp) + e
    → 2 ^ 52 * U * (np * (U * U) + (W * lm + 0 * lp) * U) ≤ 2 ^ 52 * U * ((W * lp + 0 * lm) * U + nm * (U * U)) + 1088 * U * (U * U * U)
product_shape np nm W lp lm U e small h =
    scaled-parts _ _ _ _ (U * U) _ _ _ h small (left np W lm lp U) (right W lp lm nm U) (error U)
  where
    left : (np W lm lp U : ℕ) → 2 ^ 52 * U * (np * (U * U) + (W * lm + 0 * lp) * U) ≡ 2 ^ 52 * ((np * U + W * lm) * (U * U))
    left np W lm lp U = omega arith

    right : (W lp lm nm U : ℕ) → 2 ^ 52 * U * ((W * lp + 0 * lm) * U + nm * (U * U)) ≡ 2 ^ 52 * ((nm * U + W * lp) * (U * U))
    right W lp lm nm U = omega arith

    error : (U : ℕ) → 1088 * U * (U * U * U) ≡ 1088 * (U * U) * (U * U)
    error U = omega arith

commuted : (k a b c d e U : ℕ) → k * (a + b) ≤ k * (c + d) + e * (U * U * U) → k * (b + a) ≤ k * (d + c) + e * (U * (U * U))
commuted k a b c d e U h = omega arith

big : 2 ^ 52 ≤ 2 ^ 1074
big = lit≤ tt

pub fits_product : (W h : ℕ) → W ≤ 3 * 2 ^ 1074 → h ≤ 725 * 2 ^ 1074 → W * h ≤ 2 ^ 1023 * (2 ^ 1074 * 2 ^ 1074)
fits_product W h i j =
    le_trans (mul-le-mul i j)
    (le_trans (le_of_eq (regrouped (2 ^ 1074))) (mul-le-mul_right {m = 2175} {n = 2 ^ 1023} (2 ^ 1074 * 2 ^ 1074) (lit≤ tt)))
  where
    regrouped : (z : ℕ) → 3 * z * (725 * z) ≡ 2175 * (z * z)
    regrouped z = omega arith

-- n is the rounded product of W and ±h
module _
    (s : Bool) (n W h : ℕ) (w_most : W ≤ 3 * 2 ^ 1074) (h-most : h ≤ 725 * 2 ^ 1074)
    (near : Within (n * 2 ^ 1074 * 2 ^ 53) (W * h * 2 ^ 53) (W * h + 2 ^ 52 * 2 ^ 1074)) where
  pub product_near : Near (2 ^ 52 * 2 ^ 1074) (1088 * 2 ^ 1074) (times (in_units false W) (in_units s h)) (in_units s n)
  product_near =
      let p = signed_product s n W h (2 ^ 1074) near in
      let e = product_error W h (2 ^ 1074) big w_most h-most in
      record {
        ahead = product_shape (above s n) (below s n) W (above s h) (below s h) (2 ^ 1074) _ e p.not-above;
        behind =
            commuted (2 ^ 52 * 2 ^ 1074) _ _ _ _ (1088 * 2 ^ 1074) (2 ^ 1074)
            (product_shape (below s n) (above s n) W (below s h) (above s h) (2 ^ 1074) _ e p.not-below);
      }

module _ (w l : Float) (W : ℕ) (x : Signed) (is-w : Units w W) (w_most : W ≤ 3 * 2 ^ 1074) (px : 0 < x.over) (g : Logged l x) where
  abbrev h : ℕ
  h = g.units

  product : Multiplied binary64 (w ⊗ l) g.sign W h
  product =
      subst (λ (s : Bool). Multiplied binary64 (w ⊗ l) s W h) (unlike_false g.sign)
      (mul_near binary64 w l false g.sign W h is-w g.is (fits_product W h w_most g.size))

  pub term : Term (w ⊗ l) (times (in_units false W) x) (W * 184320 + 1088 * 2 ^ 1074)
  term = record {
    sign = g.sign;
    units = product.units;
    is = product.is;
    near =
        through (mul-pos (pow_pos 1074) (pow_pos 1074)) (factor W g.near) (product_near g.sign product.units W h w_most g.size
        product.near);
  }

-- |p| by |x|
size_shape :
    (K n p m o U M E : ℕ) → 0 < K → 0 < o → p + m ≤ M * o → E ≤ K → K * (n * o + m * U) ≤ K * (p * U + 0 * o) + E * (o * U)
    → n ≤ (M + 1) * U
size_shape K n p m o U M E pK po small e h =
    le_of_mul-le-mul_right {k = o}
    (le_trans (less (le_of_mul-le-mul_left {k = K} (le_trans h (joined (mul-le-mul_right (o * U) e))) pK))
    (shape (mul-le-mul_right U small))) po
  where
    joined : E * (o * U) ≤ K * (o * U) → K * (p * U + 0 * o) + E * (o * U) ≤ K * (p * U + o * U)
    joined i = omega arith

    less : n * o + m * U ≤ p * U + o * U → n * o ≤ p * U + o * U
    less i = omega arith

    shape : (p + m) * U ≤ M * o * U → p * U + o * U ≤ (M + 1) * U * o
    shape i = omega arith

pub term-size :
    {p : Float} {x : Signed} {E : ℕ} (M : ℕ) (t : Term p x E) → 0 < x.over → x.plus + x.less ≤ M * x.over → E ≤ 2 ^ 52 * 2 ^ 1074
    → t.units ≤ (M + 1) * 2 ^ 1074
term-size {p} {x} {E} M t px small e = go t.sign t.near
  where
    go : (s : Bool) → Near (2 ^ 52 * 2 ^ 1074) E x (in_units s t.units) → t.units ≤ (M + 1) * 2 ^ 1074
    go false i =
        size_shape (2 ^ 52 * 2 ^ 1074) t.units x.plus x.less x.over (2 ^ 1074) M E
        (mul-pos (pow_pos 52) (pow_pos 1074)) px small e i.ahead
    go true i =
        size_shape (2 ^ 52 * 2 ^ 1074) t.units x.less x.plus x.over (2 ^ 1074) M E (mul-pos (pow_pos 52) (pow_pos 1074)) px
        (le_trans (le_of_eq (add_comm x.less x.plus)) small) e
        (flipped (2 ^ 52 * 2 ^ 1074) _ _ _ _ E x.over (2 ^ 1074) i.behind)
      where
        flipped : (k a b c d E o U : ℕ) → k * (a + b) ≤ k * (c + d) + E * (U * o) → k * (b + a) ≤ k * (d + c) + E * (o * U)
        flipped k a b c d E o U h = omega arith

-- ---- the rounded sum of two

sum_shape :
    (yp ym ap am bp bm U N a b : ℕ) → a + b + 2 ^ 52 ≤ 2 * (N * U) → 2 ^ 53 * (yp + (am + bm)) ≤ 2 ^ 53 * (ym + (ap + bp)) +
    (a + b + 2 ^ 52)
    → 2 ^ 52 * U * (yp * (U * U) + (am * U + bm * U) * U) ≤ 2 ^ 52 * U * ((ap * U + bp * U) * U + ym * (U * U)) + N * U * (U * U * U)
sum_shape yp ym ap am bp bm U N a b small h =
    scaled-parts (yp + (am + bm)) (ym + (ap + bp)) (a + b + 2 ^ 52) (N * U) (U * (U * U)) _ _ _ h small (left yp am bm U) (right ap bp ym U)
    (error N U)
  where
    left : (yp am bm U : ℕ) → 2 ^ 52 * U * (yp * (U * U) + (am * U + bm * U) * U) ≡ 2 ^ 52 * ((yp + (am + bm)) * (U * (U * U)))
    left yp am bm U = omega arith

    right : (ap bp ym U : ℕ) → 2 ^ 52 * U * ((ap * U + bp * U) * U + ym * (U * U)) ≡ 2 ^ 52 * ((ym + (ap + bp)) * (U * (U * U)))
    right ap bp ym U = omega arith

    error : (N U : ℕ) → N * U * (U * U * U) ≡ N * U * (U * (U * U))
    error N U = omega arith

module _
    (p q : Float) (x z : Signed) (E F N : ℕ) (s : Term p x E) (t : Term q z F) (few : s.units + t.units + 2 ^ 52 ≤ 2 * (N * 2 ^ 1074))
    (fit : s.units + t.units ≤ 2 ^ 1023 * 2 ^ 1074) where
  added : Added binary64 (p ⊕ q) s.sign s.units t.sign t.units
  added = add_near binary64 p q s.sign t.sign s.units t.units s.is t.is fit

  sum_near :
      Near (2 ^ 52 * 2 ^ 1074) (N * 2 ^ 1074) (sum (in_units s.sign s.units) (in_units t.sign t.units))
      (in_units added.sign added.units)
  sum_near = record {
    ahead =
        sum_shape (above added.sign added.units) (below added.sign added.units) (above s.sign s.units)
        (below s.sign s.units) (above t.sign t.units) (below t.sign t.units) (2 ^ 1074) N s.units t.units few
        added.near.not-above;
    behind =
        commuted (2 ^ 52 * 2 ^ 1074) _ _ _ _ (N * 2 ^ 1074) (2 ^ 1074)
        (sum_shape (below added.sign added.units) (above added.sign added.units) (below s.sign s.units)
        (above s.sign s.units) (below t.sign t.units) (above t.sign t.units) (2 ^ 1074) N s.units t.units few
        added.near.not-below);
  }

  pub sum-term : Term (p ⊕ q) (sum x z) (E + F + N * 2 ^ 1074)
  sum-term = record {
    sign = added.sign;
    units = added.units;
    is = added.is;
    near = through (mul-pos (pow_pos 1074) (pow_pos 1074)) (beside s.near t.near) sum_near;
  }
