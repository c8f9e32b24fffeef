-- How distances of signed fractions add up: one after the other, side by side in a sum, times a factor. Assumes nothing.
-- AtMostBy k e x y says that y is at most x + e/k.
use mathlib.Core.Path.{◌≡◌, subst}
use mathlib.Core.Bool.{false}
use Prim.Native.Nat.{ℕ, ◌+◌, ◌*◌, ◌^◌, ◌≤◌, ◌<◌}
use native.Mathlib.Nat.{le_trans, mul-le-mul_left, mul-le-mul_right, le_of_mul-le-mul_left, le_of_mul-le-mul_right, add_comm}
use native.Mathlib.Omega.{arith}
use Rattle.series.specs.Series.{Signed, Same}
use Rattle.series.specs.change.Distances.{AtMostBy}
use Rattle.series.specs.change.SignedArithmetic.{times}
use Rattle.series.proofs.change.Distances.{difference_moves}
use Rattle.certain.proofs.ExactCoordinates.{in_units}
use Rattle.certain.specs.power.Numbers.{sum}

through_shape :
    (k e f p l o q m w r n v : ℕ) → 0 < w → k * (q * o + l * w) ≤ k * (p * w + m * o) + e * (o * w)
    → k * (r * w + m * v) ≤ k * (q * v + n * w) + f * (w * v) → k * (r * o + l * v) ≤ k * (p * v + n * o) + (e + f) * (o * v)
through_shape k e f p l o q m w r n v pw h g =
    le_of_mul-le-mul_right {k = w}
    (go (k * q * o * v) (k * l * w * v) (k * p * w * v) (k * m * o * v) (e * o * w * v) (k * r * w * o) (k * n * w * o) (f * w * v * o)
    (one k e p l o q m w v (mul-le-mul_right v h)) (two k f q m w r n v o (mul-le-mul_right o g)) (left k r o l v w)
    (right k e f p v n o w)) pw
  where
    one :
        (k e p l o q m w v : ℕ) → k * (q * o + l * w) * v ≤ (k * (p * w + m * o) + e * (o * w)) * v
        → k * q * o * v + k * l * w * v ≤ k * p * w * v + k * m * o * v + e * o * w * v
    one k e p l o q m w v h = omega arith

    two :
        (k f q m w r n v o : ℕ) → k * (r * w + m * v) * o ≤ (k * (q * v + n * w) + f * (w * v)) * o
        → k * r * w * o + k * m * o * v ≤ k * q * o * v + k * n * w * o + f * w * v * o
    two k f q m w r n v o h = omega arith

    left : (k r o l v w : ℕ) → k * (r * o + l * v) * w ≡ k * r * w * o + k * l * w * v
    left k r o l v w = omega arith

    right :
        (k e f p v n o w : ℕ) → (k * (p * v + n * o) + (e + f) * (o * v)) * w ≡ k * p * w * v + k * n * w * o +
        (e * o * w * v + f * w * v * o)
    right k e f p v n o w = omega arith

    go :
        {X Z : ℕ} (a b c d e f g h : ℕ) → a + b ≤ c + d + e → f + d ≤ a + g + h → X ≡ f + b → Z ≡ c + g + (e + h) → X ≤ Z
    go a b c d e f g h i j s t = omega arith

through_once : (x y z : Signed) (k e f : ℕ) → 0 < y.over → AtMostBy k e x y → AtMostBy k f y z → AtMostBy k (e + f) x z
through_once x y z k e f py h g =
    through_shape k e f x.plus x.less x.over y.plus y.less y.over z.plus z.less z.over py h g

-- x and y are at most e/k apart
pub record Near (k e : ℕ) (x y : Signed) : Type 0 where
  pub ahead : AtMostBy k e x y
  pub behind : AtMostBy k e y x

pub turned : {k e : ℕ} {x y : Signed} → Near k e x y → Near k e y x
turned n = record { ahead = n.behind; behind = n.ahead }

pub through : {k e f : ℕ} {x y z : Signed} → 0 < y.over → Near k e x y → Near k f y z → Near k (e + f) x z
through {k} {e} {f} {x} {y} {z} py h g = record {
  ahead = through_once x y z k e f py h.ahead g.ahead;
  behind = subst (λ (t : ℕ). AtMostBy k t z x) (add_comm f e) (through_once z y x k f e py g.behind h.behind);
}

-- ---- sums

-- y ≤ x + e/k and y' ≤ x' + f/k
beside_shape :
    (k e f p l o q m w p' l' o' q' m' w' : ℕ) → k * (q * o + l * w) ≤ k * (p * w + m * o) + e * (o * w)
    → k * (q' * o' + l' * w') ≤ k * (p' * w' + m' * o') + f * (o' * w')
    → k * ((q * w' + q' * w) * (o * o') + (l * o' + l' * o) * (w * w'))
    ≤ k * ((p * o' + p' * o) * (w * w') + (m * w' + m' * w) * (o * o')) + (e + f) * (o * o' * (w * w'))
beside_shape k e f p l o q m w p' l' o' q' m' w' h g =
    go _ _ _ _ _ _ _ _ _ (one k e p l o q m w (o' * w') (mul-le-mul_right (o' * w') h))
    (one k f p' l' o' q' m' w' (o * w) (mul-le-mul_right (o * w) g)) (left k q o l w q' o' l' w') (right k p w m o p' w' m' o')
    (error e f o w o' w')
  where
    one :
        (k e p l o q m w z : ℕ) → k * (q * o + l * w) * z ≤ (k * (p * w + m * o) + e * (o * w)) * z
        → k * (q * o + l * w) * z ≤ k * (p * w + m * o) * z + e * (o * w) * z
    one k e p l o q m w z h = omega arith

    left :
        (k q o l w q' o' l' w' : ℕ)
        → k * ((q * w' + q' * w) * (o * o') + (l * o' + l' * o) * (w * w')) ≡ k * (q * o + l * w) * (o' * w') + k * (q' * o' + l' * w') *
        (o * w)
    left k q o l w q' o' l' w' = omega arith

    right :
        (k p w m o p' w' m' o' : ℕ)
        → k * ((p * o' + p' * o) * (w * w') + (m * w' + m' * w) * (o * o')) ≡ k * (p * w + m * o) * (o' * w') + k * (p' * w' + m' * o') *
        (o * w)
    right k p w m o p' w' m' o' = omega arith

    error : (e f o w o' w' : ℕ) → (e + f) * (o * o' * (w * w')) ≡ e * (o * w) * (o' * w') + f * (o' * w') * (o * w)
    error e f o w o' w' = omega arith

    go :
        (a b c d e f X Y Z : ℕ) → a ≤ b + c → d ≤ e + f → X ≡ a + d → Y ≡ b + e → Z ≡ c + f → X ≤ Y + Z
    go a b c d e f X Y Z h g i j s = omega arith

beside_once : (x y x' y' : Signed) (k e f : ℕ) → AtMostBy k e x y → AtMostBy k f x' y' → AtMostBy k (e + f) (sum x x') (sum y y')
beside_once x y x' y' k e f h g =
    beside_shape k e f x.plus x.less x.over y.plus y.less y.over x'.plus x'.less x'.over y'.plus y'.less
    y'.over h g

pub beside : {k e f : ℕ} {x y x' y' : Signed} → Near k e x y → Near k f x' y' → Near k (e + f) (sum x x') (sum y y')
beside {k} {e} {f} {x} {y} {x'} {y'} h g = record {
  ahead = beside_once x y x' y' k e f h.ahead g.ahead;
  behind = beside_once y x y' x' k e f h.behind g.behind;
}

-- ---- times a factor W/U, and more or finer parts

factor_shape :
    (k e W U p l o q m w : ℕ) → k * (q * o + l * w) ≤ k * (p * w + m * o) + e * (o * w)
    → k * U * ((W * q + 0 * m) * (U * o) + (W * l + 0 * p) * (U * w))
    ≤ k * U * ((W * p + 0 * l) * (U * w) + (W * m + 0 * q) * (U * o)) + W * e * (U * o * (U * w))
factor_shape k e W U p l o q m w h =
    go _ _ _ _ _ _ (mul-le-mul_left (W * U * U) h) (left k U W q m o l p w) (left k U W p l w m q o) (error W e U o w)
  where
    left :
        (k U W q m o l p w : ℕ)
        → k * U * ((W * q + 0 * m) * (U * o) + (W * l + 0 * p) * (U * w)) ≡ W * U * U * (k * (q * o + l * w))
    left k U W q m o l p w = omega arith

    error : (W e U o w : ℕ) → W * e * (U * o * (U * w)) ≡ W * U * U * (e * (o * w))
    error W e U o w = omega arith

    go : (a b c X Y Z : ℕ) → W * U * U * a ≤ W * U * U * (b + c) → X ≡ W * U * U * a → Y ≡ W * U * U * b → Z ≡ W * U * U * c → X ≤ Y + Z
    go a b c X Y Z h i j s = joined (W * U * U) h i j s
      where
        joined : (T : ℕ) → T * a ≤ T * (b + c) → X ≡ T * a → Y ≡ T * b → Z ≡ T * c → X ≤ Y + Z
        joined T h i j s = omega arith

pub factor :
    {k e : ℕ} {x y : Signed} (W : ℕ) → Near k e x y → Near (k * 2 ^ 1074) (W * e) (times (in_units false W) x) (times (in_units false W) y)
factor {k} {e} {x} {y} W h = record {
  ahead = factor_shape k e W (2 ^ 1074) x.plus x.less x.over y.plus y.less y.over h.ahead;
  behind = factor_shape k e W (2 ^ 1074) y.plus y.less y.over x.plus x.less x.over h.behind;
}

finer_shape : (k e c a b z : ℕ) → k * a ≤ k * b + e * z → k * c * a ≤ k * c * b + e * c * z
finer_shape k e c a b z h = omega (arith, mul-le-mul_left c h)

pub finer : {k e : ℕ} {x y : Signed} (c : ℕ) → Near k e x y → Near (k * c) (e * c) x y
finer {k} {e} c h = record { ahead = finer_shape k e c _ _ _ h.ahead; behind = finer_shape k e c _ _ _ h.behind }

coarser_shape : (k e c a b z : ℕ) → 0 < c → k * c * a ≤ k * c * b + e * c * z → k * a ≤ k * b + e * z
coarser_shape k e c a b z pc h = le_of_mul-le-mul_right {k = c} (omega arith) pc

-- e/k at most f/n
pub weaker : {x y : Signed} (k e f : ℕ) → e ≤ f → Near k e x y → Near k f x y
weaker {x} {y} k e f l h = record {
  ahead = le_trans h.ahead (more _ (mul-le-mul_right (x.over * y.over) l));
  behind = le_trans h.behind (more _ (mul-le-mul_right (y.over * x.over) l));
}
  where
    more : {b c : ℕ} (a : ℕ) → b ≤ c → a + b ≤ a + c
    more a h = omega arith

pub coarser : {x y : Signed} (k e c : ℕ) → 0 < c → Near (k * c) (e * c) x y → Near k e x y
coarser k e c pc h = record { ahead = coarser_shape k e c _ _ _ pc h.ahead; behind = coarser_shape k e c _ _ _ pc h.behind }

one_part_shape : (K E k a b z : ℕ) → 0 < K → E * k ≤ K → K * a ≤ K * b + E * z → k * a ≤ k * b + 1 * z
one_part_shape K E k a b z pK l h =
    le_of_mul-le-mul_left {k = K} (go (mul-le-mul_left k h) (mul-le-mul_right z l)) pK
  where
    go : k * (K * a) ≤ k * (K * b + E * z) → E * k * z ≤ K * z → K * (k * a) ≤ K * (k * b + 1 * z)
    go h i = omega arith

-- E/K is at most 1/k
pub one-part : {x y : Signed} (K E k : ℕ) → 0 < K → E * k ≤ K → Near K E x y → Near k 1 x y
one-part K E k pK l h = record { ahead = one_part_shape K E k _ _ _ pK l h.ahead; behind = one_part_shape K E k _ _ _ pK l h.behind }

-- what is said holds of the numbers
pub near_moves :
    {k e : ℕ} {x y x' y' : Signed} → 0 < x.over → 0 < y.over → Same x x' → Same y y' → Near k e x y → Near k e x' y'
near_moves {k} {e} px py a b h = record {
  ahead = difference_moves k e px py a b h.ahead;
  behind = difference_moves k e py px b a h.behind;
}
