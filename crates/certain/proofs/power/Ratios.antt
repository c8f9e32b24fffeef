-- What a residue beyond its margin, at least one of 16n parts of the sum, says of the two numbers that it is made of: one is above the
-- other by fifteen parts in 128n. And what that says of the exact ones, by a part in 9n. Over plain whole numbers, n up to 2^31. Assumes
-- nothing.
use mathlib.Core.Path.{◌≡◌, sym, subst}
use Prim.Native.Nat.{ℕ, suc, ◌+◌, ◌-◌, ◌*◌, ◌^◌, ◌≤◌, ◌<◌}
use native.Mathlib.Nat.{mul-le-mul_left, mul-le-mul_right, le_of_mul-le-mul_left, le_of_mul-le-mul_right, lt_of_mul-lt-mul_right}
use native.Mathlib.Nat.{lt_of_le_of_lt, mul-lt-mul_of_pos_right, mul-pos, le_dest}
use native.Mathlib.Omega.{arith}

-- t is the rounded sum of u and v, g the rounded part of it, at least 1/K, where K is 16n
total-least : (s t : ℕ) → 2 ^ 60 ≤ s → s * 2 ^ 53 ≤ t * 2 ^ 53 + (s + 2 ^ 52) → (2 ^ 20 - 1) * s ≤ 2 ^ 20 * t
total-least s t l h = omega arith

margin-least :
    (K g t : ℕ) → K ≤ 2 ^ 35 → 2 ^ 59 ≤ t → t * 2 ^ 53 ≤ g * K * 2 ^ 53 + (t + 2 ^ 52 * K) → (2 ^ 20 - 1) * t ≤ 2 ^ 20 * (g * K)
margin-least K g t k l h = omega arith

-- the residue p - q is above g
residue-most :
    (p q u v g : ℕ) → 2 ^ 53 * (p + v) ≤ 2 ^ 53 * (q + u) + (u + v + 2 ^ 52) → g + q < p → 2 ^ 53 * (g + v) ≤ 2 ^ 53 * u + (u + v)
residue-most p q u v g h l = omega arith

-- x, y, z and w are K times g, v, u and s
left_over :
    (s x y z w : ℕ) → (2 ^ 20 - 2) * s ≤ 2 ^ 20 * x → 2 ^ 53 * (x + y) ≤ 2 ^ 53 * z + w → w ≤ 2 ^ 35 * s
    → (2 ^ 14 - 1) * s + 2 ^ 14 * y ≤ 2 ^ 14 * z
left_over s x y z w h i j = omega arith

together :
    (K u v t g : ℕ) → 0 < K → K ≤ 2 ^ 35 → (2 ^ 20 - 1) * (u + v) ≤ 2 ^ 20 * t → (2 ^ 20 - 1) * t ≤ 2 ^ 20 * (g * K)
    → 2 ^ 53 * (g + v) ≤ 2 ^ 53 * u + (u + v)
    → (8 * K + 15) * v ≤ 8 * K * u
together K u v t g pK k a b c =
    let h =
    left_over (u + v) (g * K) (v * K) (u * K) (K * (u + v)) (one (u + v) t (g * K) a b) (times K u v g (mul-le-mul_right K c))
    (mul-le-mul_right (u + v) k) in
    last K u v h (le_of_mul-le-mul_right {k = K} (above (u + v) (v * K) (u * K) h) pK)
  where
    one : (s t x : ℕ) → (2 ^ 20 - 1) * s ≤ 2 ^ 20 * t → (2 ^ 20 - 1) * t ≤ 2 ^ 20 * x → (2 ^ 20 - 2) * s ≤ 2 ^ 20 * x
    one s t x a b = omega arith

    times :
        (K u v g : ℕ) → 2 ^ 53 * (g + v) * K ≤ (2 ^ 53 * u + (u + v)) * K → 2 ^ 53 * (g * K + v * K) ≤ 2 ^ 53 * (u * K) + K * (u + v)
    times K u v g h = omega arith

    above : (s x y : ℕ) → (2 ^ 14 - 1) * s + 2 ^ 14 * x ≤ 2 ^ 14 * y → x ≤ y
    above s x y h = omega arith

    last : (K u v : ℕ) → (2 ^ 14 - 1) * (u + v) + 2 ^ 14 * (v * K) ≤ 2 ^ 14 * (u * K) → v ≤ u → (8 * K + 15) * v ≤ 8 * K * u
    last K u v h l = omega arith

-- the margin's factor P is at least 1/K of U
part_out :
    (K P t g U : ℕ) → 0 < P → U ≤ P * K → P * t * 2 ^ 53 ≤ g * U * 2 ^ 53 + (P * t + 2 ^ 52 * U)
    → t * 2 ^ 53 ≤ g * K * 2 ^ 53 + (t + 2 ^ 52 * K)
part_out K P t g U pP e h =
    le_of_mul-le-mul_left {k = P} (go (2 ^ 53) K (2 ^ 52) h (mul-le-mul_left (g * 2 ^ 53) e) (mul-le-mul_left (2 ^ 52) e)) pP
  where
    go : (a b c : ℕ) → P * t * a ≤ g * U * a + (P * t + c * U) → g * a * U ≤ g * a * (P * b) → c * U ≤ c * (P * b)
        → P * (t * a) ≤ P * (g * b * a + (t + c * b))
    go a b c h i j = omega arith

pub beyond :
    (n p q u v t g P U : ℕ) → 0 < n → n ≤ 2 ^ 31 → 0 < P → U ≤ P * (16 * n) → 2 ^ 60 ≤ u + v
    → 2 ^ 53 * (p + v) ≤ 2 ^ 53 * (q + u) + (u + v + 2 ^ 52) → (u + v) * 2 ^ 53 ≤ t * 2 ^ 53 + (u + v + 2 ^ 52)
    → P * t * 2 ^ 53 ≤ g * U * 2 ^ 53 + (P * t + 2 ^ 52 * U) → g + q < p
    → (128 * n + 15) * v ≤ 128 * n * u
beyond n p q u v t g P U pn few pP e large res total margin l =
    counted n u v
    (together (16 * n) u v t g (some n pn) (most n few) a
    (margin-least (16 * n) g t (most n few) (large_total (u + v) t large a) (part_out (16 * n) P t g U pP e margin))
    (residue-most p q u v g res l))
  where
    a : (2 ^ 20 - 1) * (u + v) ≤ 2 ^ 20 * t
    a = total-least (u + v) t large total

    large_total : (s t : ℕ) → 2 ^ 60 ≤ s → (2 ^ 20 - 1) * s ≤ 2 ^ 20 * t → 2 ^ 59 ≤ t
    large_total s t l h = omega arith

    some : (n : ℕ) → 0 < n → 0 < 16 * n
    some n h = omega arith

    most : (n : ℕ) → n ≤ 2 ^ 31 → 16 * n ≤ 2 ^ 35
    most n h = omega arith

    counted : (n u v : ℕ) → (8 * (16 * n) + 15) * v ≤ 8 * (16 * n) * u → (128 * n + 15) * v ≤ 128 * n * u
    counted n u v h = omega arith

-- ---- the exact ones: c/(U·U) near v/U, X/Z near u/U

-- x, y and z are n times α, β and b
above_last :
    (α x y z : ℕ) → 0 < α → (2 ^ 45 - 1) * (128 * x + 15 * α) ≤ 2 ^ 45 * (128 * z) → 2 ^ 44 * z ≤ (2 ^ 44 + 1) * y → x ≤ 2 ^ 31 * α
    → 9 * x + α < 9 * y
above_last α x y z p h j l = two α x y p (one α x y z h j) l
  where
    one :
        (α x y z : ℕ) → (2 ^ 45 - 1) * (128 * x + 15 * α) ≤ 2 ^ 45 * (128 * z) → 2 ^ 44 * z ≤ (2 ^ 44 + 1) * y
        → (2 ^ 45 - 1) * (128 * x + 15 * α) ≤ (2 ^ 45 + 2) * (128 * y)
    one α x y z h j = omega arith

    two :
        (α x y : ℕ) → 0 < α → (2 ^ 45 - 1) * (128 * x + 15 * α) ≤ (2 ^ 45 + 2) * (128 * y) → x ≤ 2 ^ 31 * α → 9 * x + α < 9 * y
    two α x y p h l = omega arith

below_last :
    (β x y z : ℕ) → (2 ^ 44 - 1) * (128 * x + 15 * β) ≤ 2 ^ 44 * (128 * z) → 2 ^ 45 * z ≤ (2 ^ 45 + 1) * y → x ≤ 2 ^ 31 * β
    → 2 ^ 40 * (9 * x + β) ≤ (2 ^ 40 - 1) * (9 * y)
below_last β x y z h j l = go (le_dest (least β x y (one β x y z h j) l))
  where
    one :
        (β x y z : ℕ) → (2 ^ 44 - 1) * (128 * x + 15 * β) ≤ 2 ^ 44 * (128 * z) → 2 ^ 45 * z ≤ (2 ^ 45 + 1) * y
        → (2 ^ 44 - 1) * (128 * x + 15 * β) ≤ (2 ^ 44 + 1) * (128 * y)
    one β x y z h j = omega arith

    least : (β x y : ℕ) → (2 ^ 44 - 1) * (128 * x + 15 * β) ≤ (2 ^ 44 + 1) * (128 * y) → x ≤ 2 ^ 31 * β → x ≤ y
    least β x y h l = omega arith

    some :
        (β x d : ℕ) → (2 ^ 44 - 1) * (128 * x + 15 * β) ≤ (2 ^ 44 + 1) * (128 * (x + d)) → x ≤ 2 ^ 31 * β → 478 * β ≤ 4097 * d
    some β x d h l = omega arith

    last : (β x d : ℕ) → 478 * β ≤ 4097 * d → x ≤ 2 ^ 31 * β → 2 ^ 40 * (9 * x + β) ≤ (2 ^ 40 - 1) * (9 * (x + d))
    last β x d h l = omega arith

    go : (d : ℕ) × (x + d ≡ y) → 2 ^ 40 * (9 * x + β) ≤ (2 ^ 40 - 1) * (9 * y)
    go (d, e) =
        subst (λ (t : ℕ). 2 ^ 40 * (9 * x + β) ≤ (2 ^ 40 - 1) * (9 * t)) e
        (last β x d (some β x d
        (subst (λ (t : ℕ). (2 ^ 44 - 1) * (128 * x + 15 * β) ≤ (2 ^ 44 + 1) * (128 * t)) (sym e) (one β x y z h j)) l) l)

-- c is within 2^-45 of v·U
above_shape :
    (n α β a b : ℕ) → 0 < α → n ≤ 2 ^ 31 → 2 ^ 45 * α ≤ 2 ^ 45 * a + α → (128 * n + 15) * a ≤ 128 * n * b → 2 ^ 44 * b ≤ 2 ^ 44 * β + β
    → (9 * n + 1) * α < 9 * n * β
above_shape n α β a b pα l h i j =
    spread n α β
    (above_last α (n * α) (n * β) (n * b) pα (one n α a b (mul-le-mul_left (128 * n + 15) h) i) (two n β b (mul-le-mul_left n j))
    (mul-le-mul_right α l))
  where
    one :
        (n α a b : ℕ) → (128 * n + 15) * (2 ^ 45 * α) ≤ (128 * n + 15) * (2 ^ 45 * a + α) → (128 * n + 15) * a ≤ 128 * n * b
        → (2 ^ 45 - 1) * (128 * (n * α) + 15 * α) ≤ 2 ^ 45 * (128 * (n * b))
    one n α a b h i = omega arith

    two : (n β b : ℕ) → n * (2 ^ 44 * b) ≤ n * (2 ^ 44 * β + β) → 2 ^ 44 * (n * b) ≤ (2 ^ 44 + 1) * (n * β)
    two n β b h = omega arith

    spread : (n α β : ℕ) → 9 * (n * α) + α < 9 * (n * β) → (9 * n + 1) * α < 9 * n * β
    spread n α β h = omega arith

below_shape :
    (n α β a b : ℕ) → n ≤ 2 ^ 31 → 2 ^ 45 * a ≤ 2 ^ 45 * α + α → (128 * n + 15) * b ≤ 128 * n * a → 2 ^ 44 * β ≤ 2 ^ 44 * b + β
    → 2 ^ 40 * ((9 * n + 1) * β) ≤ (2 ^ 40 - 1) * (9 * n * α)
below_shape n α β a b l h i j =
    spread n α β
    (below_last β (n * β) (n * α) (n * a) (one n β a b (mul-le-mul_left (128 * n + 15) j) i) (two n α a (mul-le-mul_left n h))
    (mul-le-mul_right β l))
  where
    one :
        (n β a b : ℕ) → (128 * n + 15) * (2 ^ 44 * β) ≤ (128 * n + 15) * (2 ^ 44 * b + β) → (128 * n + 15) * b ≤ 128 * n * a
        → (2 ^ 44 - 1) * (128 * (n * β) + 15 * β) ≤ 2 ^ 44 * (128 * (n * a))
    one n β a b j i = omega arith

    two : (n α a : ℕ) → n * (2 ^ 45 * a) ≤ n * (2 ^ 45 * α + α) → 2 ^ 45 * (n * a) ≤ (2 ^ 45 + 1) * (n * α)
    two n α a h = omega arith

    spread :
        (n α β : ℕ) → 2 ^ 40 * (9 * (n * β) + β) ≤ (2 ^ 40 - 1) * (9 * (n * α)) → 2 ^ 40 * ((9 * n + 1) * β) ≤ (2 ^ 40 - 1) * (9 * n * α)
    spread n α β h = omega arith

module _ (n c v u U X Z : ℕ) (pn : 0 < n) (l : n ≤ 2 ^ 31) where
  pub exactly_above :
      0 < c → 0 < Z → 2 ^ 45 * c ≤ 2 ^ 45 * (v * U) + c → (128 * n + 15) * v ≤ 128 * n * u → 2 ^ 44 * (u * Z) ≤ 2 ^ 44 * (X * U) + X * U
      → (c * (9 * n) + c) * Z < X * (U * U * (9 * n))
  exactly_above pc pZ h i j =
      last (above_shape n (c * Z) (X * (U * U)) (v * U * Z) (u * U * Z) (mul-pos pc pZ) l (one (mul-le-mul_right Z h))
      (two (mul-le-mul_right (U * Z) i)) (three (mul-le-mul_right U j)))
    where
      one : 2 ^ 45 * c * Z ≤ (2 ^ 45 * (v * U) + c) * Z → 2 ^ 45 * (c * Z) ≤ 2 ^ 45 * (v * U * Z) + c * Z
      one h = omega arith

      two : (128 * n + 15) * v * (U * Z) ≤ 128 * n * u * (U * Z) → (128 * n + 15) * (v * U * Z) ≤ 128 * n * (u * U * Z)
      two h = omega arith

      three : 2 ^ 44 * (u * Z) * U ≤ (2 ^ 44 * (X * U) + X * U) * U → 2 ^ 44 * (u * U * Z) ≤ 2 ^ 44 * (X * (U * U)) + X * (U * U)
      three h = omega arith

      last : (9 * n + 1) * (c * Z) < 9 * n * (X * (U * U)) → (c * (9 * n) + c) * Z < X * (U * U * (9 * n))
      last h = omega arith

  pub exactly_below :
      (k : ℕ) → 2 ^ 40 ≤ k → 0 < c → 0 < Z → 2 ^ 45 * (v * U) ≤ 2 ^ 45 * c + c → (128 * n + 15) * u ≤ 128 * n * v
      → 2 ^ 44 * (X * U) ≤ 2 ^ 44 * (u * Z) + X * U → suc k * (X * (U * U * (9 * n) + U * U)) < k * (c * (9 * n) * Z)
  exactly_below k big pc pZ h i j =
      last k ((9 * n + 1) * (X * (U * U))) (9 * n * (c * Z)) big (mul-pos (some n pn) (mul-pos pc pZ))
      (below_shape n (c * Z) (X * (U * U)) (v * U * Z) (u * U * Z) l (one (mul-le-mul_right Z h)) (two (mul-le-mul_right (U * Z) i))
      (three (mul-le-mul_right U j)))
      (left X U) (right c Z)
    where
      one : 2 ^ 45 * (v * U) * Z ≤ (2 ^ 45 * c + c) * Z → 2 ^ 45 * (v * U * Z) ≤ 2 ^ 45 * (c * Z) + c * Z
      one h = omega arith

      two : (128 * n + 15) * u * (U * Z) ≤ 128 * n * v * (U * Z) → (128 * n + 15) * (u * U * Z) ≤ 128 * n * (v * U * Z)
      two h = omega arith

      three : 2 ^ 44 * (X * U) * U ≤ (2 ^ 44 * (u * Z) + X * U) * U → 2 ^ 44 * (X * (U * U)) ≤ 2 ^ 44 * (u * U * Z) + X * (U * U)
      three h = omega arith

      some : (n : ℕ) → 0 < n → 0 < 9 * n
      some n h = omega arith

      left : (X U : ℕ) → X * (U * U * (9 * n) + U * U) ≡ (9 * n + 1) * (X * (U * U))
      left X U = omega arith

      right : (c Z : ℕ) → c * (9 * n) * Z ≡ 9 * n * (c * Z)
      right c Z = omega arith

      last :
          {A B : ℕ} (k x y : ℕ) → 2 ^ 40 ≤ k → 0 < y → 2 ^ 40 * x ≤ (2 ^ 40 - 1) * y → A ≡ x → B ≡ y → suc k * A < k * B
      last k x y big py h e f =
          rw (e, f)
          (lt_of_mul-lt-mul_right (2 ^ 40) (lt_of_le_of_lt (one k x y (mul-le-mul_left (suc k) h))
          (two k y (mul-lt-mul_of_pos_right (more big) py))))
        where
          one : (k x y : ℕ) → suc k * (2 ^ 40 * x) ≤ suc k * ((2 ^ 40 - 1) * y) → suc k * x * 2 ^ 40 ≤ (suc k * (2 ^ 40 - 1)) * y
          one k x y h = omega arith

          more : {k : ℕ} → 2 ^ 40 ≤ k → suc k * (2 ^ 40 - 1) < k * 2 ^ 40
          more h = omega arith

          two : (k y : ℕ) → suc k * (2 ^ 40 - 1) * y < k * 2 ^ 40 * y → suc k * (2 ^ 40 - 1) * y < k * y * 2 ^ 40
          two k y h = omega arith
