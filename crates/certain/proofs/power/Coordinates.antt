-- A moderate coordinate's logarithm, and its square. Assumes nothing.
use mathlib.Core.Path.{◌≡◌, refl, sym, ap, ◌∙◌, subst}
use mathlib.Core.Bool.{Bool, true, false}
use mathlib.Core.Logic.{◌⊎◌, inl, inr}
use Prim.Native.Nat.{ℕ, zero, suc, ◌+◌, ◌*◌, ◌^◌, ◌≤◌, ◌<◌}
use native.Mathlib.Nat.{le_trans, le_of_eq, mul-pos, mul-le-mul, mul-le-mul_right, le_of_mul-le-mul_left, le_of_mul-le-mul_right}
use native.Mathlib.Nat.{eq-zero-or-pos, lt_irrefl}
use native.Mathlib.Omega.{arith}
use lib.Dec.{T, lit≤, lit<}
use lib.Pow.{pow_pos}
use lib.Ieee.{Float, binary64, fits, unlike}
use Rattle.double.specs.Operators.{◌⊗◌}
use Rattle.double.specs.Fields.{Sized, Units}
use Rattle.rounding.specs.Within.{Within}
use Rattle.rounding.proofs.errors.Multiplied.{Multiplied, mul_near}
use Rattle.series.specs.Series.{Signed, lOf}
use Rattle.series.proofs.SignedFractions.{over_pos_of}
use Rattle.logarithm.specs.Steps.{log_of}
use Rattle.certain.proofs.power.LogSizes.{L-within}
use Rattle.certain.specs.Coordinates.{largest}
use Rattle.certain.proofs.OneOperation.{product_most}
use Rattle.certain.proofs.Logarithms.{close_in_units}
use Rattle.certain.proofs.Coordinates.{Coordinate}
use Rattle.certain.proofs.power.Distances.{Near}
use Rattle.certain.proofs.power.Terms.{Logged, logged}
use Rattle.certain.proofs.power.Decided.{Squared}

abbrev U : ℕ
U = 2 ^ 1074

-- l is near x, which is not large
pub record LogOf (l : Float) (x : Signed) : Type 0 where
  pub log : Logged l x
  pub small : x.plus + x.less ≤ 719 * x.over
  pub over-pos : 0 < x.over

itself : (x : Signed) → Near (2 ^ 52) 3 x x
itself x = record { ahead = shape x.plus x.less x.over; behind = shape x.plus x.less x.over }
  where
    shape : (p l o : ℕ) → 2 ^ 52 * (p * o + l * o) ≤ 2 ^ 52 * (p * o + l * o) + 3 * (o * o)
    shape p l o = omega arith

pub own_log :
    (x : Float) (a : ℕ) → T (fits binary64 x) → Units x a → 0 < a → a ≤ largest * U → U ≤ largest * a → LogOf (log_of x) (lOf a U)
own_log x a F is pa most least =
    let small : (lOf a U).plus + (lOf a U).less ≤ 719 * (lOf a U).over =
    L-within a U 501 719 pa (pow_pos 1074) (under a U (pow_pos 1074) most) (le_trans least (mul-le-mul_right a (lit≤ tt))) (lit≤ tt) in
    record {
      log =
          logged (log_of x) (lOf a U) (lOf a U) (close_in_units x a F pa is) (over_pos_of a U (pow_pos 1074)) small (itself (lOf a U)) small
          (over_pos_of a U (pow_pos 1074));
      small = small;
      over-pos = over_pos_of a U (pow_pos 1074);
    }
  where
    under : (a z : ℕ) → 0 < z → a ≤ largest * z → a < 2 ^ 501 * z
    under a z p h = le_trans (go h) (le_trans (le_of_eq (spread largest z)) (mul-le-mul_right z (lit≤ tt)))
      where
        go : a ≤ largest * z → suc a ≤ largest * z + z
        go h = more a (largest * z) z p h
          where
            more : (a b z : ℕ) → 0 < z → a ≤ b → suc a ≤ b + z
            more a b z p h = omega arith

        spread : (K z : ℕ) → K * z + z ≡ (K + 1) * z
        spread K z = omega arith

-- ---- the square

unlike_same : (s : Bool) → unlike s s ≡ false
unlike_same true = refl
unlike_same false = refl

none_shape : (v z : ℕ) → 0 < z → v * z * 2 ^ 53 ≤ 0 * 2 ^ 53 + (0 + 2 ^ 52 * z) → v ≡ 0
none_shape zero z p h = refl
none_shape (suc v) z p h = absurd (go v z p h)
  where
    go : (v z : ℕ) → 0 < z → suc v * z * 2 ^ 53 ≤ 0 * 2 ^ 53 + (0 + 2 ^ 52 * z) → ⊥
    go v z p h = omega arith

squared_none : (v c z : ℕ) → c ≡ 0 → v ≡ 0 → Within (2 ^ 52 * (v * z)) (2 ^ 52 * c) c
squared_none v c z e f = rw (e, f) (record { not-above = omega arith; not-below = omega arith })

squared_some :
    (x c e : ℕ) → e ≤ 2 * c → Within (x * 2 ^ 53) (c * 2 ^ 53) e → Within (2 ^ 52 * x) (2 ^ 52 * c) c
squared_some x c e l h = record { not-above = omega (arith, h.not-above); not-below = omega (arith, h.not-below) }

-- U is 2^74·K², K the largest coordinate
least_shape : (K H w z : ℕ) → 0 < K → z ≡ H * (K * K) → z ≤ K * w → H * z ≤ w * w
least_shape K H w z pK e h =
    le_of_mul-le-mul_left {k = K * K} (le_trans (le_of_eq (first K H z ∙ ap (λ (t : ℕ). t * z) (sym e)))
    (le_trans (mul-le-mul h h) (le_of_eq (second K w)))) (mul-pos pK pK)
  where
    first : (K H z : ℕ) → K * K * (H * z) ≡ H * (K * K) * z
    first K H z = omega arith

    second : (K w : ℕ) → K * w * (K * w) ≡ K * K * (w * w)
    second K w = omega arith

square_most : (K w z : ℕ) → w ≤ K * z → w * w ≤ K * K * (z * z)
square_most K w z h = le_trans (mul-le-mul h h) (le_of_eq (go K z))
  where
    go : (K z : ℕ) → K * z * (K * z) ≡ K * K * (z * z)
    go K z = omega arith

size_shape : (x c z K : ℕ) → 0 < K → 0 < z → c ≤ K * (z * z) → x ≤ 2 * c + z → x ≤ 1024 * K * z * z
size_shape x c z K pK pz h g =
    go (K * (z * z)) h (le_trans (le_of_eq (first z)) (le_trans (mul-le-mul pz (mul-le-mul_right z pK)) (le_of_eq (second z K))))
    (third K z)
  where
    first : (z : ℕ) → z ≡ 1 * (1 * z)
    first z = omega arith

    second : (z K : ℕ) → z * (K * z) ≡ K * (z * z)
    second z K = omega arith

    third : (K z : ℕ) → 1024 * K * z * z ≡ 1024 * (K * (z * z))
    third K z = omega arith

    go : (y : ℕ) → c ≤ y → z ≤ y → 1024 * K * z * z ≡ 1024 * y → x ≤ 1024 * K * z * z
    go y i j e = rw e (last x c z y g i j)
      where
        last : (x c z y : ℕ) → x ≤ 2 * c + z → c ≤ y → z ≤ y → x ≤ 1024 * y
        last x c z y h i j = omega arith

-- one rounding: within 2^-52
pub record Fine (q : Float) (c : ℕ) : Type 0 where
  pub units : ℕ
  pub is : Units q units
  pub near : Within (2 ^ 52 * (units * U)) (2 ^ 52 * c) c
  pub least : 0 < c → 2 ^ 74 * U ≤ c
  pub most : units ≤ 2 ^ 1010 * U
  pub size : c ≤ 2 ^ 1000 * (U * U)

pub fine_square : (x : Float) (c : Coordinate x) → Fine (x ⊗ x) (c.units * c.units)
fine_square x c = record {
  size = square_most largest w U c.most;
  units = v;
  is = subst (λ (s : Bool). Sized (x ⊗ x) s v) (unlike_same c.sign) product.is;
  near = near (eq-zero-or-pos w);
  least = λ p. least (w_pos p);
  most =
      le_of_mul-le-mul_right {k = U} (size_shape (v * U) (w * w) U (largest * largest) (lit< tt) (pow_pos 1074)
      (square_most largest w U c.most) (product_most v U (w * w) product.near.not-above)) (pow_pos 1074);
}
  where
    w : ℕ
    w = c.units

    room : w * w ≤ 2 ^ 1023 * (U * U)
    room = le_trans (square_most largest w U c.most) (mul-le-mul_right {m = largest * largest} {n = 2 ^ 1023} (U * U) (lit≤ tt))

    product : Multiplied binary64 (x ⊗ x) (unlike c.sign c.sign) w w
    product = mul_near binary64 x x c.sign c.sign w w c.is c.is room

    v : ℕ
    v = product.units

    least : 0 < w → 2 ^ 74 * U ≤ w * w
    least p = least_shape largest (2 ^ 74) w U (lit< tt) refl (c.least p)

    w_pos : 0 < w * w → 0 < w
    w_pos p = go (eq-zero-or-pos w)
      where
        none : (w : ℕ) → w ≡ 0 → 0 < w * w → ⊥
        none w e p = lt_irrefl 0 (subst (λ (z : ℕ). 0 < z * z) e p)

        go : (w ≡ 0) ⊎ (0 < w) → 0 < w
        go (inl e) = absurd (none w e p)
        go (inr l) = l

    near : (w ≡ 0) ⊎ (0 < w) → Within (2 ^ 52 * (v * U)) (2 ^ 52 * (w * w)) (w * w)
    near (inl e) =
        squared_none v (w * w) U zero_square
        (none_shape v U (pow_pos 1074) (subst (λ (z : ℕ). v * U * 2 ^ 53 ≤ z * 2 ^ 53 + (z + 2 ^ 52 * U)) zero_square
        product.near.not-above))
      where
        zero_square : w * w ≡ 0
        zero_square = ap (λ (z : ℕ). z * z) e
    near (inr p) =
        squared_some (v * U) (w * w) _ (few (w * w) U (least p)) product.near
      where
        few : (c z : ℕ) → 2 ^ 74 * z ≤ c → c + 2 ^ 52 * z ≤ 2 * c
        few c z h = omega arith

pub square : (x : Float) (c : Coordinate x) → Squared (x ⊗ x) (c.units * c.units)
square x c =
    let f = fine_square x c in
    record {
      units = f.units;
      is = f.is;
      near = go (f.units * U) (c.units * c.units) f.near;
      least = f.least;
      most = f.most;
    }
  where
    go : (x c : ℕ) → Within (2 ^ 52 * x) (2 ^ 52 * c) c → Within (2 ^ 45 * x) (2 ^ 45 * c) c
    go x c h = record { not-above = omega (arith, h.not-above); not-below = omega (arith, h.not-below) }
