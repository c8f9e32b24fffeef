-- The weights 2α and 2(1-α) as computed, and what their rounding changes: α is A units, 1 is U units. Assumes nothing.
use mathlib.Core.Path.{◌≡◌, refl, sym, ap, ◌∙◌, subst}
use mathlib.Core.Bool.{Bool, true, false, cond, not}
use Prim.Native.Nat.{ℕ, zero, suc, ◌+◌, ◌-◌, ◌*◌, ◌^◌, ◌≤◌, ◌<◌}
use native.Mathlib.Nat.{le_trans, le_of_eq, le_of_lt, mul-pos, mul-le-mul, mul-le-mul_left, mul-le-mul_right, le_of_mul-le-mul_right}
use native.Mathlib.Nat.{mul_comm, mul-sub}
use native.Mathlib.Nat.{lt_of_not-le, lt_of_mul-lt-mul_right, suc-mul, mul_assoc, add-le-add, le_refl, lt_of_lt_of_le, add-mul}
use native.Mathlib.Decide.{dec_le}
use native.Mathlib.Omega.{arith}
use borrow.Author.Tests.{le-ltb}
use lib.Dec.{T, lit≤}
use lib.Count.{count_trailing_zeros}
use lib.Pow.{pow_pos, pow_mono, pow-add, shl_lt}
use lib.Ieee.{Float, nan, inf, fin, binary64, fits, of_bits, of_fields, odd, up, down, neg, add, sub, round, unlike, to_bits}
use lib.Ieee as ieee
use lib.Ieee.Fits.{down_pos}
use Rattle.double.specs.Operators.{◌⊖◌, ◌⊗◌}
use Rattle.double.specs.Numbers.{#1, #2}
use Rattle.double.specs.Fields.{Sized, Units, mag, field_of, digits_of, sign_of}
use Rattle.double.proofs.Fields.{measured, finite_of_value, digits_lt, same_units, same_sign}
use Rattle.rounding.specs.Within.{Within}
use Rattle.rounding.specs.errors.Errors.{Rounded}
use Rattle.rounding.proofs.errors.Rounded.{rounded_near}
use Rattle.rounding.proofs.errors.Multiplied.{Multiplied, mul_near}
use Rattle.rounding.proofs.errors.Added.{Totalled, cleared}
use Rattle.series.specs.Series.{Signed, Same}
use Rattle.series.specs.change.SignedArithmetic.{times}
use Rattle.certain.proofs.ExactCoordinates.{in_units}
use Rattle.certain.proofs.power.Distances.{Near, through, weaker, factor, coarser, near_moves}
use Rattle.certain.proofs.power.Terms.{Logged, Term, term, product_near, fits_product}

abbrev U : ℕ
U = 2 ^ 1074

pub one-units : Units #1 U
unfolding of_bits of_fields odd count_trailing_zeros
one-units = (refl, refl)

pub two-units : Units #2 (2 * U)
unfolding of_bits of_fields odd count_trailing_zeros
two-units = (refl, refl)

-- ---- a difference that is not negative, by its own size

difference_round :
    (a b A B C : ℕ) → 0 < C → A * U ≡ a * C → B * U ≡ b * C → b ≤ a → a ≤ 2 ^ 1023 * U
    → Totalled binary64 (ieee.sum binary64 false A true B C) (a - b)
unfolding ieee.sum
difference_round a b A B C pC ea eb l most =
    subst (λ (z : Bool). Totalled binary64 (cond z (round binary64 true (B - A) C) (round binary64 false (A - B) C)) (a - b))
    (sym (le-ltb A B ordered))
    (let w : Rounded binary64 (round binary64 false (A - B) C) false (A - B) C = rounded_near binary64 false (A - B) C pC fine in
    record {
      units = w.units;
      is = w.is;
      near = cleared w.units C (2 ^ 53) (A - B) (a - b) U (2 ^ 52) pC difference w.near;
    })
  where
    ordered : B ≤ A
    ordered = le_of_mul-le-mul_right {k = U} (go (mul-le-mul_right C l)) (pow_pos 1074)
      where
        go : b * C ≤ a * C → B * U ≤ A * U
        go h = subst (λ (z : ℕ). z ≤ A * U) (sym eb) (subst (λ (z : ℕ). b * C ≤ z) (sym ea) h)

    difference : (A - B) * U ≡ (a - b) * C
    difference =
        mul_comm (A - B) U ∙ mul-sub U A B ∙ two_sides (mul_comm U A ∙ ea ∙ mul_comm a C) (mul_comm U B ∙ eb ∙ mul_comm b C)
        ∙ sym (mul-sub C a b) ∙ mul_comm C (a - b)
      where
        two_sides : {x y z w : ℕ} → x ≡ y → z ≡ w → x - z ≡ y - w
        two_sides p q = omega arith

    fine : A - B ≤ 2 ^ 1023 * C
    fine =
        le_of_mul-le-mul_right {k = U} (le_trans (le_of_eq difference) (go (2 ^ 1023) U (mul-le-mul_right C (under a b most))))
        (pow_pos 1074)
      where
        under : (a b : ℕ) {z : ℕ} → a ≤ z → a - b ≤ z
        under a b h = omega arith

        go : (M w : ℕ) → (a - b) * C ≤ M * w * C → (a - b) * C ≤ M * C * w
        go M w h = le_trans h (le_of_eq (regrouped M w C))
          where
            regrouped : (M w C : ℕ) → M * w * C ≡ M * C * w
            regrouped M w C = omega arith

pub difference_near :
    (x y : Float) (a b : ℕ) → Units x a → Units y b → b ≤ a → a ≤ 2 ^ 1023 * U → Totalled binary64 (x ⊖ y) (a - b)
unfolding sub add neg
difference_near nan y a b h k l m = absurd h
difference_near (inf i) y a b h k l m = absurd h
difference_near (fin i m e) nan a b h k l o = absurd k
difference_near (fin i m e) (inf j) a b h k l o = absurd k
difference_near (fin i m e) (fin j n d) a b h k l o =
    subst (λ (z : Bool). Totalled binary64 (ieee.sum binary64 z (m * up e * down d) (not j) (n * up d * down e) (down e * down d)) (a - b))
    (sym h.0)
    (subst (λ (z : Bool). Totalled binary64 (ieee.sum binary64 false (m * up e * down d) (not z) (n * up d * down e) (down e * down d))
    (a - b)) (sym k.0)
    (difference_round a b (m * up e * down d) (n * up d * down e) (down e * down d) (mul-pos (down_pos e) (down_pos d))
    (over_first (m * up e) a U (down e) (down d) h.1) (over-second (n * up d) b U (down d) (down e) k.1) l o))
  where
    over_first : (X x w D E : ℕ) → X * w ≡ x * D → X * E * w ≡ x * (D * E)
    over_first X x w D E h = omega (arith, ap (λ (t : ℕ). t * E) h)

    over-second : (X x w D E : ℕ) → X * w ≡ x * D → X * E * w ≡ x * (E * D)
    over-second X x w D E h = omega (arith, ap (λ (t : ℕ). t * E) h)

-- ---- 1 - α

-- a double below 1 is below it by 2^-53 at least
gap_shape : (A H k : ℕ) → A ≡ k * H → A < 2 ^ 53 * H → A + H ≤ 2 ^ 53 * H
gap_shape A H k e l = rw e (under (lt_of_mul-lt-mul_right H (subst (λ (z : ℕ). z < 2 ^ 53 * H) e l)))
  where
    under : k < 2 ^ 53 → k * H + H ≤ 2 ^ 53 * H
    under l = le_trans (le_of_eq (sym (suc-mul k H))) (mul-le-mul_right H l)

gap_fields : (f t : ℕ) → t < 2 ^ 52 → mag f t < U → mag f t + 2 ^ 1021 ≤ U
unfolding mag
gap_fields zero t d l = le_trans (add-le-add (le_of_lt d) (le_refl (2 ^ 1021))) (lit≤ tt)
gap_fields (suc j) t d l = go (dec_le j 1020)
  where
    digits : (t : ℕ) → t < 2 ^ 52 → 2 ^ 52 + t < 2 ^ 53
    digits t h = omega arith

    back : {j : ℕ} → 1020 < j → j ≡ j - 1021 + 1021
    back e = omega arith

    small : {j : ℕ} → j ≤ 1020 → 53 + j ≤ 1073
    small h = omega arith

    go : Dec (j ≤ 1020) → (2 ^ 52 + t) * 2 ^ j + 2 ^ 1021 ≤ U
    go (yes h) =
        le_trans (add-le-add (le_of_lt (lt_of_lt_of_le (shl_lt 53 j (digits t d)) (pow_mono {j = 1073} (small h)))) (le_refl (2 ^ 1021)))
        (lit≤ tt)
    go (no h) =
        gap_shape ((2 ^ 52 + t) * 2 ^ j) (2 ^ 1021) ((2 ^ 52 + t) * 2 ^ (j - 1021))
        (ap (λ (z : ℕ). (2 ^ 52 + t) * z) (ap (λ (z : ℕ). 2 ^ z) (back (lt_of_not-le h)) ∙ pow-add 2 (j - 1021) 1021)
        ∙ sym (mul_assoc (2 ^ 52 + t) (2 ^ (j - 1021)) (2 ^ 1021))) l

pub gap : (α : Float) (A : ℕ) → T (fits binary64 α) → Units α A → A < U → 2 ^ 1021 ≤ U - A
gap α A F is l =
    let b = to_bits binary64 α in
    let m = measured α F (finite_of_value α false A U is) in
    let e : A ≡ mag (field_of b) (digits_of b) =
    same_units α false A _ is (subst (λ (s : Bool). Sized α s (mag (field_of b) (digits_of b))) (same_sign α (sign_of b) false _ A m.is is)
    m.is) in
    taken A (2 ^ 1021) (subst (λ (z : ℕ). z + 2 ^ 1021 ≤ U) (sym e) (gap_fields (field_of b) (digits_of b) (digits_lt b)
    (subst (λ (z : ℕ). z < U) e l)))
  where
    taken : (A H : ℕ) {z : ℕ} → A + H ≤ z → H ≤ z - A
    taken A H h = omega arith

-- ---- a weight, near W units

pub record Weight (w : Float) (W : ℕ) : Type 0 where
  pub units : ℕ
  pub is : Units w units
  pub near : Within (2 ^ 52 * units) (2 ^ 52 * W) (3 * U)

big : 2 ^ 60 ≤ U
big = lit≤ tt

most_shape : (n N z : ℕ) → 2 ^ 60 ≤ z → N ≤ z → n * 2 ^ 53 ≤ N * 2 ^ 53 + (N + 2 ^ 52) → 2 * n ≤ 3 * z
most_shape n N z b m h = omega arith

slack : (n N z : ℕ) → 2 ^ 60 ≤ z → N ≤ z → 2 * n ≤ 3 * z → N + n + 2 ^ 53 ≤ 3 * z
slack n N z b l k = omega arith

double_above :
    (m n N z : ℕ) → N + n + 2 ^ 53 ≤ 3 * z → m * 2 ^ 53 ≤ 2 * n * 2 ^ 53 + (2 * n + 2 ^ 52) → n * 2 ^ 53 ≤ N * 2 ^ 53 + (N + 2 ^ 52)
    → 2 ^ 52 * m ≤ 2 ^ 52 * (2 * N) + 3 * z
double_above m n N z k i j = omega arith

double_below :
    (m n N z : ℕ) → N + n + 2 ^ 53 ≤ 3 * z → 2 * n * 2 ^ 53 ≤ m * 2 ^ 53 + (2 * n + 2 ^ 52) → N * 2 ^ 53 ≤ n * 2 ^ 53 + (N + 2 ^ 52)
    → 2 ^ 52 * (2 * N) ≤ 2 ^ 52 * m + 3 * z
double_below m n N z k i j = omega arith

some_shape : (m n z : ℕ) → 0 < z → 0 < n → n * (2 * z) * 2 ^ 53 ≤ m * z * 2 ^ 53 + (n * (2 * z) + 2 ^ 52 * z) → 0 < m
some_shape zero n z pz pn h = absurd (none n z (mul-pos pn pz) (mul-le-mul_right z pn) h)
  where
    none : (n z : ℕ) → 0 < n * z → 1 * z ≤ n * z → n * (2 * z) * 2 ^ 53 ≤ 0 * z * 2 ^ 53 + (n * (2 * z) + 2 ^ 52 * z) → ⊥
    none n z p l h = omega arith
some_shape (suc m) n z pz pn h = omega arith

-- n is N but for its rounding
module _ (w : Float) (n N : ℕ) (is-n : Units w n) (near : Within (n * 2 ^ 53) (N * 2 ^ 53) (N + 2 ^ 52)) (most : N ≤ U) where
  n_less : 2 * n ≤ 3 * U
  n_less = most_shape n N U big most near.not-above

  n-most : n ≤ 2 * U
  n-most = go n U n_less
    where
      go : (n z : ℕ) → 2 * n ≤ 3 * z → n ≤ 2 * z
      go n z h = omega arith

  pub weight : Weight w N
  weight = record { units = n; is = is-n; near = go U big most near }
    where
      go : (z : ℕ) → 2 ^ 60 ≤ z → N ≤ z → Within (n * 2 ^ 53) (N * 2 ^ 53) (N + 2 ^ 52) → Within (2 ^ 52 * n) (2 ^ 52 * N) (3 * z)
      go z b m h = record { not-above = omega (arith, h.not-above); not-below = omega (arith, h.not-below) }

  room : 2 * U * n ≤ 2 ^ 1023 * (U * U)
  room =
      le_trans (mul-le-mul_left (2 * U) n-most)
      (le_trans (le_of_eq (regrouped U)) (mul-le-mul_right {m = 4} {n = 2 ^ 1023} (U * U) (lit≤ tt)))
    where
      regrouped : (z : ℕ) → 2 * z * (2 * z) ≡ 4 * (z * z)
      regrouped z = omega arith

  doubled :
      (m z : ℕ) → 0 < z → 2 ^ 60 ≤ z → N ≤ z → 2 * n ≤ 3 * z → Within (m * z * 2 ^ 53) (2 * z * n * 2 ^ 53) (2 * z * n + 2 ^ 52 * z)
      → Within (2 ^ 52 * m) (2 ^ 52 * (2 * N)) (3 * z)
  doubled m z pz b l k h = record {
    not-above = double_above m n N z (slack n N z b l k) (le_of_mul-le-mul_right {k = z} (first h.not-above) pz) near.not-above;
    not-below = double_below m n N z (slack n N z b l k) (le_of_mul-le-mul_right {k = z} (second h.not-below) pz) near.not-below;
  }
    where
      first : m * z * 2 ^ 53 ≤ 2 * z * n * 2 ^ 53 + (2 * z * n + 2 ^ 52 * z) → m * 2 ^ 53 * z ≤ (2 * n * 2 ^ 53 + (2 * n + 2 ^ 52)) * z
      first i = omega arith

      second : 2 * z * n * 2 ^ 53 ≤ m * z * 2 ^ 53 + (2 * z * n + 2 ^ 52 * z) → 2 * n * 2 ^ 53 * z ≤ (m * 2 ^ 53 + (2 * n + 2 ^ 52)) * z
      second i = omega arith

  pub twice_product : Multiplied binary64 (#2 ⊗ w) false (2 * U) n
  twice_product = mul_near binary64 #2 w false false (2 * U) n two-units is-n room

  pub twice : Weight (#2 ⊗ w) (2 * N)
  twice = record {
    units = twice_product.units;
    is = twice_product.is;
    near = doubled twice_product.units U (pow_pos 1074) big most n_less twice_product.near;
  }

  pub product_twice : Multiplied binary64 (w ⊗ #2) false n (2 * U)
  product_twice = mul_near binary64 w #2 false false n (2 * U) is-n two-units (le_trans (le_of_eq (mul_comm n (2 * U))) room)

  pub twice-some : 0 < n → 0 < twice_product.units
  twice-some pn =
      some_shape twice_product.units n U (pow_pos 1074) pn
      (subst (λ (z : ℕ). z * 2 ^ 53 ≤ twice_product.units * U * 2 ^ 53 + (z + 2 ^ 52 * U)) (mul_comm (2 * U) n)
      twice_product.near.not-below)

  pub twice_behind_some : 0 < n → 0 < product_twice.units
  twice_behind_some pn = some_shape product_twice.units n U (pow_pos 1074) pn product_twice.near.not-below

  pub twice_behind : Weight (w ⊗ #2) (2 * N)
  twice_behind = record {
    units = product_twice.units;
    is = product_twice.is;
    near =
        doubled product_twice.units U (pow_pos 1074) big most n_less
        (subst (λ (z : ℕ). Within (product_twice.units * U * 2 ^ 53) (z * 2 ^ 53) (z + 2 ^ 52 * U)) (mul_comm n (2 * U))
        product_twice.near);
  }

-- ---- what a weight's rounding changes, of an x up to 719 in size

reweigh_shape :
    (a b p m o z : ℕ) → 2 ^ 52 * b ≤ 2 ^ 52 * a + 3 * z → 2 ^ 52 * a ≤ 2 ^ 52 * b + 3 * z → p + m ≤ 719 * o
    → 2 ^ 52 * z * ((b * p + 0 * m) * (z * o) + (a * m + 0 * p) * (z * o))
    ≤ 2 ^ 52 * z * ((a * p + 0 * m) * (z * o) + (b * m + 0 * p) * (z * o)) + 2157 * z * (z * o * (z * o))
reweigh_shape a b p m o z h g s =
    go _ _ (z * o) _ _ _
    (parts (2 ^ 52 * b * p) (2 ^ 52 * a * p) (2 ^ 52 * a * m) (2 ^ 52 * b * m) (z * p) (z * m) (z * o) (one p b a (mul-le-mul_right p h))
    (one m a b (mul-le-mul_right m g))
    (three (mul-le-mul_left z s)))
    (left b p m a o z) (left a p m b o z) (error z o)
  where
    one : (p b a : ℕ) → 2 ^ 52 * b * p ≤ (2 ^ 52 * a + 3 * z) * p → 2 ^ 52 * b * p ≤ 2 ^ 52 * a * p + 3 * (z * p)
    one p b a h = omega arith

    three : z * (p + m) ≤ z * (719 * o) → z * p + z * m ≤ 719 * (z * o)
    three h = omega arith

    parts : (x y u v s t w : ℕ) → x ≤ y + 3 * s → u ≤ v + 3 * t → s + t ≤ 719 * w → x + u ≤ y + v + 2157 * w
    parts x y u v s t w h g k = omega arith

    left :
        (b p m a o z : ℕ)
        → 2 ^ 52 * z * ((b * p + 0 * m) * (z * o) + (a * m + 0 * p) * (z * o)) ≡ (2 ^ 52 * b * p + 2 ^ 52 * a * m) * (z * (z * o))
    left b p m a o z = omega arith

    error : (z o : ℕ) → 2157 * z * (z * o * (z * o)) ≡ 2157 * (z * o) * (z * (z * o))
    error z o = omega arith

    go : (x y w X Y E : ℕ) → x ≤ y + 2157 * w → X ≡ x * (z * w) → Y ≡ y * (z * w) → E ≡ 2157 * w * (z * w) → X ≤ Y + E
    go x y w X Y E h i j k = rw (i, j, k) (le_trans (mul-le-mul_right (z * w) h) (le_of_eq (add-mul y (2157 * w) (z * w))))

pub reweigh :
    {w : Float} {W : ℕ} (g : Weight w W) (x : Signed) → x.plus + x.less ≤ 719 * x.over
    → Near (2 ^ 52 * U) (2157 * U) (times (in_units false W) x) (times (in_units false g.units) x)
reweigh {w} {W} g x small = record {
  ahead = reweigh_shape W g.units x.plus x.less x.over U g.near.not-above g.near.not-below small;
  behind = reweigh_shape g.units W x.plus x.less x.over U g.near.not-below g.near.not-above small;
}

-- ---- a weighed logarithm

weight-most : (n N z : ℕ) → 2 ^ 60 ≤ z → N ≤ 2 * z → 2 ^ 52 * n ≤ 2 ^ 52 * N + 3 * z → n ≤ 3 * z
weight-most n N z b l h = omega arith

error_most : (n N z : ℕ) → 2 ^ 52 * n ≤ 2 ^ 52 * N + 3 * z → 2157 * z + (n * 184320 + 1088 * z) ≤ N * 184320 + 3250 * z
error_most n N z h = omega arith

pub lighter : {p : Float} {x : Signed} {E : ℕ} (F : ℕ) → E ≤ F → Term p x E → Term p x F
lighter {E = E} F l t = record { sign = t.sign; units = t.units; is = t.is; near = weaker (2 ^ 52 * U) E F l t.near }

pub weighed :
    {w l : Float} {W : ℕ} {x : Signed} → Weight w W → W ≤ 2 * U → Logged l x → 0 < x.over → x.plus + x.less ≤ 719 * x.over
    → Term (w ⊗ l) (times (in_units false W) x) (W * 184320 + 3250 * U)
weighed {w} {l} {W} {x} g most log px small =
    lighter (W * 184320 + 3250 * U) (error_most g.units W U g.near.not-above)
    (record { sign = t.sign; units = t.units; is = t.is; near = through (mul-pos (pow_pos 1074) px) (reweigh g x small) t.near })
  where
    t : Term (w ⊗ l) (times (in_units false g.units) x) (g.units * 184320 + 1088 * U)
    t = term w l g.units x g.is (weight-most g.units W U big most g.near.not-above) px log

-- its size
pub weighed_size : (m W : ℕ) (x : Signed) → W ≤ m * U → x.plus + x.less ≤ 719 * x.over
    → (times (in_units false W) x).plus + (times (in_units false W) x).less ≤ m * 719 * (times (in_units false W) x).over
weighed_size m W x most small = shape m W x.plus x.less x.over U most small
  where
    shape : (k W p m o z : ℕ) → W ≤ k * z → p + m ≤ 719 * o → W * p + 0 * m + (W * m + 0 * p) ≤ k * 719 * (z * o)
    shape k W p m o z h g = le_trans (le_of_eq (first W p m)) (le_trans (mul-le-mul h g) (le_of_eq (second k z o)))
      where
        first : (W p m : ℕ) → W * p + 0 * m + (W * m + 0 * p) ≡ W * (p + m)
        first W p m = omega arith

        second : (k z o : ℕ) → k * z * (719 * o) ≡ k * 719 * (z * o)
        second k z o = omega arith

-- ---- a term doubled

same_doubled : (B : ℕ) (x : Signed) → Same (times (in_units false (2 * U)) (times (in_units false B) x)) (times (in_units false (2 * B)) x)
same_doubled B x = record { crosswise = shape B x.plus x.less x.over U }
  where
    shape :
        (B p m o z : ℕ)
        → (2 * z * (B * p + 0 * m) + 0 * (B * m + 0 * p)) * (z * o) + (2 * B * m + 0 * p) * (z * (z * o))
        ≡ (2 * B * p + 0 * m) * (z * (z * o)) + (2 * z * (B * m + 0 * p) + 0 * (B * p + 0 * m)) * (z * o)
    shape B p m o z = omega arith

pub term_doubled :
    {p : Float} {E : ℕ} (B : ℕ) (x : Signed) (t : Term p (times (in_units false B) x) E) → t.units ≤ 725 * U → 0 < x.over
    → Term (p ⊗ #2) (times (in_units false (2 * B)) x) (2 * E + 1088 * U)
term_doubled {p} {E} B x t most px = record {
  sign = t.sign;
  units = product.units;
  is = product.is;
  near =
      near_moves (mul-pos (pow_pos 1074) (mul-pos (pow_pos 1074) px)) (pow_pos 1074) (same_doubled B x) (record { crosswise = refl })
      (through (mul-pos (pow_pos 1074) (pow_pos 1074))
      (coarser (2 ^ 52 * U) (2 * E) U (pow_pos 1074)
      (subst (λ (e : ℕ). Near (2 ^ 52 * U * U) e (times (in_units false (2 * U)) (times (in_units false B) x))
      (times (in_units false (2 * U)) (in_units t.sign t.units)))
      (regrouped U E) (factor (2 * U) t.near)))
      (product_near t.sign product.units (2 * U) t.units (lit≤ tt) most
      (subst (λ (z : ℕ). Within (product.units * U * 2 ^ 53) (z * 2 ^ 53) (z + 2 ^ 52 * U)) (mul_comm t.units (2 * U))
      product.near)));
}
  where
    regrouped : (z e : ℕ) → 2 * z * e ≡ 2 * e * z
    regrouped z e = omega arith

    unlike_second : (s : Bool) → unlike s false ≡ s
    unlike_second true = refl
    unlike_second false = refl

    product : Multiplied binary64 (p ⊗ #2) t.sign t.units (2 * U)
    product =
        subst (λ (s : Bool). Multiplied binary64 (p ⊗ #2) s t.units (2 * U)) (unlike_second t.sign)
        (mul_near binary64 p #2 t.sign false t.units (2 * U) t.is two-units
        (le_trans (le_of_eq (mul_comm t.units (2 * U))) (fits_product (2 * U) t.units (lit≤ tt) most)))
