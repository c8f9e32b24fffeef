-- The two small terms as `estimated` computes them in doubles, against the specification's: within 8 units. Each operation is off by less than
-- one in the quotient q; so the terms are those of q + 3 at most, and of q - 3 at least. Assumes nothing.
use Rattle.std.proofs.Common.{◌≡◌, ℕ, zero, suc, ◌+◌, ◌-◌, ◌*◌, ◌/◌, ◌^◌, ◌<◌, ◌≤◌, false, sym, refl, ap, le_trans, le_of_eq, le_refl, le-add_right, add-le-add, mul-le-mul_right, mul_assoc, mul-le-mul, mul-le-mul_left, mul-pos, le_of_mul-le-mul_right, arith, leb→le, pow_pos}
use lib.Ieee.{Float, binary64, mul, add, of_bits}
use Rattle.double.specs.Fields.{Units}
use Rattle.double.proofs.Made.{of_parts}
use Rattle.rounding.proofs.errors.Added.{Totalled, total_near}
use Rattle.rounding.proofs.errors.Multiplied.{Multiplied, mul_near}
use Rattle.logarithm.specs.Steps.{upper, short_series_of}
use Rattle.logarithm.proofs.Roundings.{product_above, product_below}
use Rattle.logarithm.proofs.ShortSeries.{upper-below, upper-above, upper-le}

-- ---- the five operations, over plain variables: P is 2^53, H is 2^52, v is 2^1074. At most: u is X, w is X², p is X³, s and t the sum and
-- the product

module _ (v P H : ℕ) (pv : 0 < v) (pP : 0 < P) where
  square_above :
      (X u g : ℕ) → X + H ≤ P → 1 ≤ X → u ≤ X * v → g * v * P ≤ u * u * P + (u * u + H * v) → g ≤ (X + 1) * (X + 1) * v
  square_above X u g h l a n =
      le_trans
      (product_above v P H X (X * v) (u * u) g pv pP h (mul-pos l pv) (le_trans (mul-le-mul a a) (le_of_eq (shape X v))) n)
      (omega (arith, mul-le-mul_right ((X + 1) * v) (more X)))
    where
      shape : (X v : ℕ) → X * v * (X * v) ≡ X * (X * v) * v
      shape X v = omega arith

      more : (X : ℕ) → X ≤ X + 1
      more X = omega arith

  cube-above :
      (X u w g : ℕ) → X + H ≤ P → u ≤ X * v → w ≤ (X + 1) * (X + 1) * v → g * v * P ≤ u * w * P + (u * w + H * v)
      → g ≤ (X + 1) * ((X + 1) * (X + 1) * v)
  cube-above X u w g h a b n =
      product_above v P H X ((X + 1) * (X + 1) * v) (u * w) g pv pP h (mul-pos (mul-pos (some X) (some X)) pv)
      (le_trans (mul-le-mul a b) (le_of_eq (shape ((X + 1) * (X + 1) * v)))) n
    where
      some : (X : ℕ) → 0 < X + 1
      some X = omega arith

      shape : (B : ℕ) → X * v * B ≡ X * B * v
      shape B = omega arith

  factor_above :
      (Y k w g : ℕ) → Y + H ≤ P → 1 ≤ Y → 1 ≤ k → w ≤ Y * Y * v → g * v * P ≤ w * k * P + (w * k + H * v) → g ≤ (Y + 1) * (Y + 1) * k
  factor_above Y k w g h l pk a n =
      le_trans
      (product_above v P H Y (Y * k) (w * k) g pv pP h (mul-pos l pk) (le_trans (mul-le-mul_right k a) (le_of_eq shape)) n)
      (omega (arith, mul-le-mul_right ((Y + 1) * k) more))
    where
      shape : Y * Y * v * k ≡ Y * (Y * k) * v
      shape = omega arith

      more : Y ≤ Y + 1
      more = omega arith

  sum-above : (N M g : ℕ) → H ≤ N → M ≤ N → g * P ≤ M * P + (M + H) → g * P ≤ N * (P + 2)
  sum-above N M g h l n = omega (arith, n, mul-le-mul_right P l)

  total-above :
      (Y N p s g : ℕ) → Y + H ≤ P → 2 * Y ≤ P → 1 ≤ Y → 1 ≤ N → p ≤ Y * (Y * Y * v) → s * P ≤ N * (P + 2)
      → g * v * P ≤ p * s * P + (p * s + H * v) → g ≤ (Y + 1) * ((Y + 1) * (Y + 1) * N)
  total-above Y N p s g h d l pN a b n =
      le_trans
      (product_above v P H Y (Y * (Y + 1) * N) (p * s) g pv pP h (mul-pos (mul-pos l (omega arith)) pN)
      (le_of_mul-le-mul_right {k = P}
      (le_trans (le_of_eq (turned p s P)) (le_trans (mul-le-mul a b)
      (omega (arith, mul-le-mul_left (Y * Y * v * N) grown)))) pP)
      n)
      (omega (arith, mul-le-mul_right ((Y + 1) * ((Y + 1) * N)) more))
    where
      turned : (p s P : ℕ) → p * s * P ≡ p * (s * P)
      turned p s P = omega arith

      grown : Y * (P + 2) ≤ (Y + 1) * P
      grown = omega arith

      more : Y ≤ Y + 1
      more = omega arith

-- at least: u is z + 2, w is (z + 1)², p is (z + 1)³; P is p + 2 or p + 1

module _ (v H : ℕ) (pv : 0 < v) where
  square_below :
      (p y u g : ℕ) → y + 1 + H ≤ p + 1 → (y + 1) * v ≤ u → u * u * (p + 1) ≤ g * v * (p + 1) + (u * u + H * v) → y * y * v ≤ g
  square_below p y u g h a n =
      less (product_below v p H (y + 1) ((y + 1) * v) (u * u) g pv h (mul-pos (some y) pv) (le_trans (le_of_eq shape) (mul-le-mul a a)) n)
    where
      some : (y : ℕ) → 0 < y + 1
      some y = omega arith

      shape : (y + 1) * ((y + 1) * v) * v ≡ (y + 1) * v * ((y + 1) * v)
      shape = go (y + 1)
        where
          go : (x : ℕ) → x * (x * v) * v ≡ x * v * (x * v)
          go x = omega arith

      less : (y + 1) * ((y + 1) * v) ≤ g + (y + 1) * v → y * y * v ≤ g
      less l = omega arith

  cube-below :
      (p y u w g : ℕ) → y + 1 + H ≤ p + 1 → 1 ≤ y → (y + 1) * v ≤ u → y * y * v ≤ w
      → u * w * (p + 1) ≤ g * v * (p + 1) + (u * w + H * v) → y * (y * y * v) ≤ g
  cube-below p y u w g h l a b n =
      less (product_below v p H (y + 1) (y * y * v) (u * w) g pv h (mul-pos (mul-pos l l) pv) (le_trans (le_of_eq shape) (mul-le-mul a b)) n)
    where
      shape : (y + 1) * (y * y * v) * v ≡ (y + 1) * v * (y * y * v)
      shape = omega arith

      less : (y + 1) * (y * y * v) ≤ g + y * y * v → y * (y * y * v) ≤ g
      less l = omega arith

  factor_below :
      (p z k w g : ℕ) → z + 1 + H ≤ p + 1 → 1 ≤ k → (z + 1) * (z + 1) * v ≤ w → w * k * (p + 1) ≤ g * v * (p + 1) + (w * k + H * v)
      → z * z * k ≤ g
  factor_below p z k w g h pk a n =
      less (product_below v p H (z + 1) ((z + 1) * k) (w * k) g pv h (mul-pos some pk) (le_trans (le_of_eq shape) (mul-le-mul_right k a)) n)
    where
      some : 0 < z + 1
      some = omega arith

      shape : (z + 1) * ((z + 1) * k) * v ≡ (z + 1) * (z + 1) * v * k
      shape = go (z + 1)
        where
          go : (x : ℕ) → x * (x * k) * v ≡ x * x * v * k
          go x = omega arith

      less : (z + 1) * ((z + 1) * k) ≤ g + (z + 1) * k → z * z * k ≤ g
      less l = omega arith

  sum_below : (p N M g : ℕ) → H ≤ N → N ≤ M → M * (p + 2) ≤ g * (p + 2) + (M + H) → N * p ≤ g * (p + 2)
  sum_below p N M g h l n = omega (arith, n, mul-le-mul_right p l)

  total-below :
      (p z N c s g : ℕ) → z + 1 + H ≤ p + 2 → 2 * z ≤ p → 1 ≤ z → 1 ≤ N → (z + 1) * ((z + 1) * (z + 1) * v) ≤ c → N * p ≤ s * (p + 2)
      → c * s * (p + 2) ≤ g * v * (p + 2) + (c * s + H * v) → z * (z * z * N) ≤ g
  total-below p z N c s g h d l pN a b n =
      less
      (product_below v (p + 1) H (z + 1) ((z + 1) * z * N) (c * s) g pv (le_trans h (omega arith)) (mul-pos (mul-pos (some z) l) pN)
      (le_of_mul-le-mul_right {k = p + 2} (le_trans (shrunk (z + 1) shorter) (le_trans (mul-le-mul a b) (le_of_eq (turned c s (p + 2)))))
      (omega arith))
      (rounded p n))
    where
      some : (z : ℕ) → 0 < z + 1
      some z = omega arith

      turned : (c s q : ℕ) → c * (s * q) ≡ c * s * q
      turned c s q = omega arith

      shorter : z * (p + 2) ≤ (z + 1) * p
      shorter = omega arith

      shrunk : (y : ℕ) → z * (p + 2) ≤ y * p → y * (y * z * N) * v * (p + 2) ≤ y * (y * y * v) * (N * p)
      shrunk y e = omega (arith, mul-le-mul_left (y * y * v * N) e)

      rounded : (p : ℕ) → c * s * (p + 2) ≤ g * v * (p + 2) + (c * s + H * v) → c * s * (p + 1 + 1) ≤ g * v * (p + 1 + 1) + (c * s + H * v)
      rounded p n = omega arith

      less : (z + 1) * ((z + 1) * z * N) ≤ g + (z + 1) * z * N → z * (z * z * N) ≤ g
      less l = omega arith

-- ---- the powers of e against those that the specification cuts: t is 16·e, G is 2^64, J is 2^56 and K is 2^116; e is at most M

four_more : (e M K : ℕ) → e ≤ M → 1 ≤ M → 124 * (M * M) ≤ K → (e + 4) * ((e + 4) * (e + 4)) ≤ e * (e * e) + K
four_more e M K h l k = omega (arith, mul-le-mul h h, mul-le-mul_left M l, mul-le-mul h l)

three_less : (e z M K : ℕ) → e ≤ z + 3 → z ≤ M → 1 ≤ M → 124 * (M * M) ≤ K → e * (e * e) ≤ z * (z * z) + K
three_less e z M K i h l k =
    le_trans (mul-le-mul i (mul-le-mul i i)) (omega (arith, mul-le-mul h h, mul-le-mul_left M l, mul-le-mul h l))

module _ (e : ℕ) (small : e ≤ 2 ^ 52) where
  abbrev t : ℕ
  t = 16 * e

  abbrev t² : ℕ
  t² = upper t t

  abbrev t³ : ℕ
  t³ = upper t t²

  abbrev t⁵ : ℕ
  t⁵ = upper t³ t²

  t²-le : t² ≤ 2 ^ 56
  t²-le = le_trans (upper-le t t (omega arith)) (omega arith)

  t³-le : t³ ≤ 2 ^ 56
  t³-le = le_trans (upper-le t t² (omega (arith, t²-le))) (omega arith)

  t⁵-le : t⁵ ≤ 2 ^ 56
  t⁵-le = le_trans (upper-le t³ t² (omega (arith, t²-le))) t³-le

  square_at_most : (Z : ℕ) → Z ≤ e + 4 → Z * Z ≤ (t² + 2) * 2 ^ 56
  square_at_most Z h = le_trans (mul-le-mul h h) (omega (arith, upper-above t t))

  square_at_least : (z : ℕ) → e ≤ z + 3 → z ≤ 2 ^ 52 → t² * 2 ^ 56 ≤ z * z + 2 ^ 56
  square_at_least z h l = le_trans {m = e * e} (omega (arith, upper-below t t)) (le_trans (mul-le-mul h h) (omega arith))

  cube_cut_above : (t a b G : ℕ) → t ≤ G → t * t < a * G + G → t * a < b * G + G → t * (t * t) ≤ (b + 2) * (G * G)
  cube_cut_above t a b G h k l =
      le_trans {m = t * (a * G + G)} (mul-le-mul_left t (before k)) (omega (arith, mul-le-mul_right G (before l), mul-le-mul_right G h))
    where
      before : {x y : ℕ} → x < y → x ≤ y
      before h = omega arith

  cube_cut_below : (t a b G : ℕ) → a * G ≤ t * t → b * G ≤ t * a → b * (G * G) ≤ t * (t * t)
  cube_cut_below t a b G k l = le_trans {m = t * a * G} (omega (arith, mul-le-mul_right G l)) (omega (arith, mul-le-mul_left t k))

  sixteen : (e : ℕ) → 16 * e * (16 * e * (16 * e)) ≡ e * (e * e) * 4096
  sixteen e = omega arith

  cube_at_most : (Z : ℕ) → Z ≤ e + 4 → Z * (Z * Z) ≤ (t³ + 3) * 2 ^ 116
  cube_at_most Z h =
      le_trans (mul-le-mul h (mul-le-mul h h))
      (le_trans (four_more e (2 ^ 52) (2 ^ 116) small (omega arith) (leb→le (124 * (2 ^ 52 * 2 ^ 52)) (2 ^ 116) tt))
      (last (2 ^ 116) (le_of_mul-le-mul_right {k = 4096}
      (le_trans (le_of_eq (sym (sixteen e)))
      (le_trans (cube_cut_above t t² t³ (2 ^ 64) (omega arith) (upper-above t t) (upper-above t t²)) (le_of_eq (scaled (t³ + 2)))))
      (omega arith))))
    where
      scaled : (x : ℕ) → x * (2 ^ 64 * 2 ^ 64) ≡ x * 2 ^ 116 * 4096
      scaled x = sym (mul_assoc x (2 ^ 116) 4096)

      last : (K : ℕ) → e * (e * e) ≤ (t³ + 2) * K → e * (e * e) + K ≤ (t³ + 3) * K
      last K h = omega arith

  cube_at_least : (z : ℕ) → e ≤ z + 3 → z ≤ 2 ^ 52 → t³ * 2 ^ 116 ≤ z * (z * z) + 2 ^ 116
  cube_at_least z h l =
      le_trans
      (le_of_mul-le-mul_right {k = 4096}
      (le_trans (le_of_eq (scaled t³)) (le_trans (cube_cut_below t t² t³ (2 ^ 64) (upper-below t t) (upper-below t t²)) (le_of_eq (sixteen e))))
      (omega arith))
      (three_less e z (2 ^ 52) (2 ^ 116) h l (omega arith) (leb→le (124 * (2 ^ 52 * 2 ^ 52)) (2 ^ 116) tt))
    where
      scaled : (x : ℕ) → x * 2 ^ 116 * 4096 ≡ x * (2 ^ 64 * 2 ^ 64)
      scaled x = mul_assoc x (2 ^ 116) 4096

  fifth_at_most : (t³ + 3) * (t² + 2) ≤ (t⁵ + 2) * 2 ^ 64
  fifth_at_most = go t² t³ t⁵ t²-le t³-le (upper-above t³ t²)
    where
      go : (a b c : ℕ) → a ≤ 2 ^ 56 → b ≤ 2 ^ 56 → b * a < c * 2 ^ 64 + 2 ^ 64 → (b + 3) * (a + 2) ≤ (c + 2) * 2 ^ 64
      go a b c h k l = omega arith

-- ---- the numerators: F is 2^121, Q is 2^236, E is 2^54, D is E·Q = 2^290; m and n are the digits of the factors 2/3 and 2/5; a is a square and
-- b a cube

terms_most :
    (F Q E D G J K m n c a b x y w : ℕ) → 0 < Q → K * F ≡ 2 * Q → G * K * J ≡ Q → D ≡ E * Q → a ≤ (x + 2) * J → b ≤ (y + 3) * K
    → (y + 3) * (x + 2) ≤ (w + 2) * G → c * D ≤ b * (m * F + a * n) + D → c * E ≤ (y + 3) * (2 * m) + (w + 2) * n + E
terms_most F Q E D G J K m n c a b x y w pQ eK eG eD ha hb hw h =
    le_of_mul-le-mul_right {k = Q}
    (go (y + 3) (w + 2) (mul-le-mul hb ha) hb hw)
    pQ
  where
    go :
        (s r : ℕ) → b * a ≤ s * K * ((x + 2) * J) → b ≤ s * K → s * (x + 2) ≤ r * G → c * E * Q ≤ (s * (2 * m) + r * n + E) * Q
    go s r p hb hw =
        let fifths : b * a * n ≤ r * n * Q = le_trans (mul-le-mul_right n p) (bound s r (x + 2) hw) in
        let thirds : b * (m * F) ≤ s * (2 * m) * Q = le_trans (mul-le-mul_right (m * F) hb) (le_of_eq (turn s)) in
        omega (arith, h, ap (λ (z : ℕ). c * z) eD, ap (λ (z : ℕ). z) eD)
      where
        bound : (s r x : ℕ) → s * x ≤ r * G → s * K * (x * J) * n ≤ r * n * Q
        bound s r x l = omega (arith, mul-le-mul_right (K * J * n) l, ap (λ (z : ℕ). r * n * z) eG)

        turn : (s : ℕ) → s * K * (m * F) ≡ s * (2 * m) * Q
        turn s = omega (arith, ap (λ (z : ℕ). s * m * z) eK)

terms_least :
    (F Q E D G J K M m n c a b x y w : ℕ) → 0 < Q → K * F ≡ 2 * Q → G * K * J ≡ Q → D ≡ E * Q → x * J ≤ a + J → y * K ≤ b + K
    → w * G ≤ y * x → a ≤ M * M → b ≤ M * (M * M) → K * (M * M) + J * (M * (M * M)) + K * J ≤ Q → b * (m * F + a * n) ≤ c * D + D
    → y * (2 * m) + w * n ≤ (c + 1) * E + (2 * m + n)
terms_least F Q E D G J K M m n c a b x y w pQ eK eG eD ha hb hw la lb lQ h =
    le_of_mul-le-mul_right {k = Q} (omega (arith, h, thirds, fifths, ap (λ (z : ℕ). c * z) eD, ap (λ (z : ℕ). z) eD)) pQ
  where
    product : w * Q ≤ b * a + Q
    product =
        le_trans {m = (b + K) * (a + J)}
        (le_trans {m = y * K * (x * J)} (omega (arith, mul-le-mul_right (K * J) hw, ap (λ (z : ℕ). w * z) eG)) (mul-le-mul hb ha))
        (omega (arith, mul-le-mul_left K la, mul-le-mul_left J lb))

    fifths : w * n * Q ≤ b * (a * n) + n * Q
    fifths = omega (arith, mul-le-mul_right n product)

    thirds : y * (2 * m) * Q ≤ b * (m * F) + 2 * m * Q
    thirds = omega (arith, mul-le-mul_right (m * F) hb, ap (λ (z : ℕ). y * m * z) eK, ap (λ (z : ℕ). m * z) eK)

module _ (c y w : ℕ) where
  pub not-above :
      w ≤ 2 ^ 56
      → c * 18014398509481984 ≤ (y + 3) * (2 * 6004799503160661) + (w + 2) * 7205759403792794 + 18014398509481984
      → c ≤ 2 * y / 3 + 2 * w / 5 + 8
  not-above k h = omega arith

  pub not-below :
      y ≤ 2 ^ 56
      → y * (2 * 6004799503160661) + w * 7205759403792794 ≤ (c + 1) * 18014398509481984 + (2 * 6004799503160661 + 7205759403792794)
      → 2 * y / 3 + 2 * w / 5 ≤ c + 8
  not-below k h = omega arith

-- ---- r is a double of u units, and q its digits

abbrev pub k₁ : ℕ
k₁ = 6004799503160661 * 2 ^ 905

abbrev pub k₂ : ℕ
k₂ = 7205759403792794 * 2 ^ 784

module _ (r : Float) (u q : ℕ) (R : Units r u) (small : u ≤ (2 ^ 51 + 2) * 2 ^ 1074) (above : q * 2 ^ 1074 ≤ u + 2 ^ 1074)
    (below : u ≤ q * 2 ^ 1074 + 2 ^ 1074) where
  abbrev pub f₁ : Float
  f₁ = of_bits binary64 0x38a5_5555_5555_5555

  abbrev pub f₂ : Float
  f₂ = of_bits binary64 0x3119_9999_9999_999a

  one-third : Units f₁ k₁
  one-third = of_parts 905 1501199875790165 (omega arith) (omega arith)

  one_fifth : Units f₂ k₂
  one_fifth = of_parts 784 2702159776422298 (omega arith) (omega arith)

  q_small : q ≤ 2 ^ 51 + 3
  q_small = le_of_mul-le-mul_right {k = 2 ^ 1074} (le_trans above (go (2 ^ 1074) small)) (pow_pos 1074)
    where
      go : (v : ℕ) → u ≤ (2 ^ 51 + 2) * v → u + v ≤ (2 ^ 51 + 3) * v
      go v h = omega arith

  u_most : u ≤ (q + 1) * 2 ^ 1074
  u_most = le_trans below (le_of_eq (go (2 ^ 1074)))
    where
      go : (v : ℕ) → q * v + v ≡ (q + 1) * v
      go v = omega arith

  X-fits : q + 1 + 2 ^ 52 ≤ 2 ^ 53
  X-fits = omega (arith, q_small)

  Y-fits : q + 1 + 1 + 2 ^ 52 ≤ 2 ^ 53
  Y-fits = omega (arith, q_small)

  pub w_near : Multiplied binary64 (mul binary64 r r) false u u
  w_near =
      mul_near binary64 r r false false u u R R
      (le_trans (mul-le-mul small small) (leb→le ((2 ^ 51 + 2) * 2 ^ 1074 * ((2 ^ 51 + 2) * 2 ^ 1074)) (2 ^ 1023 * (2 ^ 1074 * 2 ^ 1074)) tt))

  abbrev pub w : ℕ
  w = w_near.units

  w_most : w ≤ (q + 1 + 1) * (q + 1 + 1) * 2 ^ 1074
  w_most =
      square_above (2 ^ 1074) (2 ^ 53) (2 ^ 52) (pow_pos 1074) (omega arith) (q + 1) u w X-fits (omega arith) u_most w_near.near.not-above

  few : q + 1 + 1 ≤ 2 ^ 52
  few = omega (arith, q_small)

  few_more : q + 1 + 1 + 1 ≤ 2 ^ 52
  few_more = omega (arith, q_small)

  w_small : w ≤ 2 ^ 52 * 2 ^ 52 * 2 ^ 1074
  w_small = le_trans w_most (mul-le-mul_right (2 ^ 1074) (mul-le-mul few few))

  pub p_near : Multiplied binary64 (mul binary64 r (mul binary64 r r)) false u w
  p_near =
      mul_near binary64 r (mul binary64 r r) false false u w R w_near.is
      (le_trans (mul-le-mul small w_small)
      (leb→le ((2 ^ 51 + 2) * 2 ^ 1074 * (2 ^ 52 * 2 ^ 52 * 2 ^ 1074)) (2 ^ 1023 * (2 ^ 1074 * 2 ^ 1074)) tt))

  abbrev pub p : ℕ
  p = p_near.units

  p_most : p ≤ (q + 1 + 1) * ((q + 1 + 1) * (q + 1 + 1) * 2 ^ 1074)
  p_most =
      cube-above (2 ^ 1074) (2 ^ 53) (2 ^ 52) (pow_pos 1074) (omega arith) (q + 1) u w p X-fits u_most w_most p_near.near.not-above

  p_small : p ≤ 2 ^ 52 * (2 ^ 52 * 2 ^ 52 * 2 ^ 1074)
  p_small = le_trans p_most (mul-le-mul few (mul-le-mul_right (2 ^ 1074) (mul-le-mul few few)))

  pub b_near : Multiplied binary64 (mul binary64 (mul binary64 r r) f₂) false w k₂
  b_near =
      mul_near binary64 (mul binary64 r r) f₂ false false w k₂ w_near.is one_fifth
      (le_trans (mul-le-mul_right k₂ w_small)
      (leb→le (2 ^ 52 * 2 ^ 52 * 2 ^ 1074 * (7205759403792794 * 2 ^ 784)) (2 ^ 1023 * (2 ^ 1074 * 2 ^ 1074)) tt))

  abbrev pub b : ℕ
  b = b_near.units

  k₂-pos : 1 ≤ k₂
  k₂-pos = leb→le 1 (7205759403792794 * 2 ^ 784) tt

  b-most : b ≤ (q + 1 + 1 + 1) * (q + 1 + 1 + 1) * k₂
  b-most =
      factor_above (2 ^ 1074) (2 ^ 53) (2 ^ 52) (pow_pos 1074) (omega arith) (q + 1 + 1) k₂ w b Y-fits (omega arith) k₂-pos w_most
      b_near.near.not-above

  b_small : b ≤ 2 ^ 52 * 2 ^ 52 * k₂
  b_small = le_trans b-most (mul-le-mul_right k₂ (mul-le-mul few_more few_more))

  pub a_near : Totalled binary64 (add binary64 f₁ (mul binary64 (mul binary64 r r) f₂)) (k₁ + b)
  a_near =
      total_near binary64 f₁ (mul binary64 (mul binary64 r r) f₂) k₁ b one-third b_near.is
      (le_trans (add-le-add (le_refl k₁) b_small)
      (leb→le (6004799503160661 * 2 ^ 905 + 2 ^ 52 * 2 ^ 52 * (7205759403792794 * 2 ^ 784)) (2 ^ 1023 * 2 ^ 1074) tt))

  abbrev pub a : ℕ
  a = a_near.units

  -- the factors' sum at q + 3, at q - 3, and at most
  abbrev N : ℕ → ℕ
  N z = k₁ + z * z * k₂

  N-from : (z : ℕ) → 2 ^ 52 ≤ N z
  N-from z = le_trans (leb→le (2 ^ 52) (6004799503160661 * 2 ^ 905) tt) (le-add_right k₁ (z * z * k₂))

  N-pos : (z : ℕ) → 1 ≤ N z
  N-pos z = le_trans (omega arith) (N-from z)

  a_most : a * 2 ^ 53 ≤ N (q + 1 + 1 + 1) * (2 ^ 53 + 2)
  a_most =
      sum-above (2 ^ 1074) (2 ^ 53) (2 ^ 52) (pow_pos 1074) (omega arith) (N (q + 1 + 1 + 1)) (k₁ + b) a (N-from (q + 1 + 1 + 1))
      (add-le-add (le_refl k₁) b-most) a_near.near.not-above

  a_small : a ≤ 2 * (k₁ + 2 ^ 52 * 2 ^ 52 * k₂)
  a_small =
      le_of_mul-le-mul_right {k = 2 ^ 53}
      (le_trans a_most (le_trans (mul-le-mul_right (2 ^ 53 + 2) (add-le-add (le_refl k₁) (mul-le-mul_right k₂ (mul-le-mul few_more few_more))))
      (double (k₁ + 2 ^ 52 * 2 ^ 52 * k₂))))
      (omega arith)
    where
      double : (n : ℕ) → n * (2 ^ 53 + 2) ≤ 2 * n * 2 ^ 53
      double n = omega arith

  pub terms_near :
      Multiplied binary64 (mul binary64 (mul binary64 r (mul binary64 r r)) (add binary64 f₁ (mul binary64 (mul binary64 r r) f₂))) false p a
  terms_near =
      mul_near binary64 (mul binary64 r (mul binary64 r r)) (add binary64 f₁ (mul binary64 (mul binary64 r r) f₂)) false false p a p_near.is
      a_near.is
      (le_trans (mul-le-mul p_small a_small)
      (leb→le
      (2 ^ 52 * (2 ^ 52 * 2 ^ 52 * 2 ^ 1074) * (2 * (6004799503160661 * 2 ^ 905 + 2 ^ 52 * 2 ^ 52 * (7205759403792794 * 2 ^ 784))))
      (2 ^ 1023 * (2 ^ 1074 * 2 ^ 1074)) tt))

  abbrev pub terms : ℕ
  terms = terms_near.units

  terms_above : terms ≤ (q + 1 + 1 + 1) * ((q + 1 + 1 + 1) * (q + 1 + 1 + 1) * N (q + 1 + 1 + 1))
  terms_above =
      total-above (2 ^ 1074) (2 ^ 53) (2 ^ 52) (pow_pos 1074) (omega arith) (q + 1 + 1) (N (q + 1 + 1 + 1)) p a terms Y-fits
      (omega (arith, q_small)) (omega arith) (N-pos (q + 1 + 1 + 1)) p_most a_most terms_near.near.not-above

  pub terms_small : terms ≤ (2 ^ 51 + 2) * 2 ^ 1074
  terms_small =
      le_trans terms_above
      (le_trans (mul-le-mul few_more (mul-le-mul (mul-le-mul few_more few_more)
      (add-le-add (le_refl k₁) (mul-le-mul_right k₂ (mul-le-mul few_more few_more)))))
      (leb→le
      (2 ^ 52 * (2 ^ 52 * 2 ^ 52 * (6004799503160661 * 2 ^ 905 + 2 ^ 52 * 2 ^ 52 * (7205759403792794 * 2 ^ 784))))
      ((2 ^ 51 + 2) * 2 ^ 1074) tt))

  -- at least
  terms_below : (z : ℕ) → 1 ≤ z → z + 3 ≤ q → z * (z * z * N z) ≤ terms
  terms_below z l h =
      let wide : z + 1 + 1 + 2 ^ 52 ≤ 2 ^ 53 = omega (arith, q_small) in
      let narrow : z + 1 + 2 ^ 52 ≤ 2 ^ 53 = omega arith in
      let u_least : (z + 1 + 1) * 2 ^ 1074 ≤ u = go (2 ^ 1074) (le_trans (mul-le-mul_right (2 ^ 1074) h) above) in
      let w_least : (z + 1) * (z + 1) * 2 ^ 1074 ≤ w =
      square_below (2 ^ 1074) (2 ^ 52) (pow_pos 1074) (2 ^ 53 - 1) (z + 1) u w wide u_least w_near.near.not-below in
      let p_least : (z + 1) * ((z + 1) * (z + 1) * 2 ^ 1074) ≤ p =
      cube-below (2 ^ 1074) (2 ^ 52) (pow_pos 1074) (2 ^ 53 - 1) (z + 1) u w p wide (omega arith) u_least w_least p_near.near.not-below in
      let b-least : z * z * k₂ ≤ b =
      factor_below (2 ^ 1074) (2 ^ 52) (pow_pos 1074) (2 ^ 53 - 1) z k₂ w b narrow k₂-pos w_least b_near.near.not-below in
      let a_least : N z * (2 ^ 53 - 2) ≤ a * 2 ^ 53 =
      sum_below (2 ^ 1074) (2 ^ 52) (pow_pos 1074) (2 ^ 53 - 2) (N z) (k₁ + b) a (N-from z) (add-le-add (le_refl k₁) b-least)
      a_near.near.not-below in
      total-below (2 ^ 1074) (2 ^ 52) (pow_pos 1074) (2 ^ 53 - 2) z (N z) p a terms narrow (omega (arith, q_small)) l (N-pos z) p_least a_least
      terms_near.near.not-below
    where
      go : (v : ℕ) → (z + 3) * v ≤ u + v → (z + 1 + 1) * v ≤ u
      go v h = omega arith

  -- ---- the digits of the terms, against the specification at e, which is q or one less

  module _ (c e : ℕ) (c_above : c * 2 ^ 1074 ≤ terms + 2 ^ 1074) (c_below : terms ≤ c * 2 ^ 1074 + 2 ^ 1074) (hi : e ≤ q) (lo : q ≤ e + 1) where
    e_small : e ≤ 2 ^ 52
    e_small = omega (arith, q_small)

    pub series_above : 2 * (16 * e) + c ≤ short_series_of (16 * e) + 8
    unfolding short_series_of
    series_above =
        let Z = q + 1 + 1 + 1 in
        let near : Z ≤ e + 4 = omega arith in
        moved (2 * (16 * e)) _ _
        (not-above c _ _ (t⁵-le e e_small)
        (terms_most (2 ^ 121) (2 ^ 236) (2 ^ 54) (2 ^ 290) (2 ^ 64) (2 ^ 56) (2 ^ 116) 6004799503160661 7205759403792794 c (Z * Z) (Z * (Z * Z)) _ _ _
        (pow_pos 236) refl refl refl (square_at_most e e_small Z near) (cube_at_most e e_small Z near) (fifth_at_most e e_small)
        (cancelled (2 ^ 290) (2 ^ 784) (6004799503160661 * 2 ^ 121) 7205759403792794 terms Z (pow_pos 784) c_above terms_above)))
      where
        cancelled :
            (D R m n s Z : ℕ) → 0 < R → c * (D * R) ≤ s + D * R → s ≤ Z * (Z * Z * (m * R + Z * Z * (n * R)))
            → c * D ≤ Z * (Z * Z) * (m + Z * Z * n) + D
        cancelled D R m n s Z pR h k = le_of_mul-le-mul_right {k = R} (omega arith) pR

        moved : (o x y : ℕ) → c ≤ x + y + 8 → o + c ≤ o + x + y + 8
        moved o x y h = omega arith

    pub series_below : short_series_of (16 * e) ≤ 2 * (16 * e) + c + 8
    unfolding short_series_of
    series_below = go (q - 3) (omega arith) (omega (arith, q_small)) (at_least (q - 3) refl)
      where
        none : (x y : ℕ) → 0 * x ≤ y
        none x y = omega arith

        at_least : (z : ℕ) → q - 3 ≡ z → z * (z * z * N z) ≤ terms
        at_least zero h = none (0 * 0 * N 0) terms
        at_least (suc z) h = terms_below (suc z) (omega arith) (omega arith)

        cancelled :
            (D R m n s z : ℕ) → 0 < R → s ≤ c * (D * R) + D * R → z * (z * z * (m * R + z * z * (n * R))) ≤ s
            → z * (z * z) * (m + z * z * n) ≤ c * D + D
        cancelled D R m n s z pR h k = le_of_mul-le-mul_right {k = R} (omega arith) pR

        moved : (o x y : ℕ) → x + y ≤ c + 8 → o + x + y ≤ o + c + 8
        moved o x y h = omega arith

        go : (z : ℕ) → e ≤ z + 3 → z ≤ 2 ^ 52 → z * (z * z * N z) ≤ terms → short_series_of (16 * e) ≤ 2 * (16 * e) + c + 8
        go z near bounded least =
            moved (2 * (16 * e)) _ _
            (not-below c _ _ (t³-le e e_small)
            (terms_least (2 ^ 121) (2 ^ 236) (2 ^ 54) (2 ^ 290) (2 ^ 64) (2 ^ 56) (2 ^ 116) (2 ^ 52) 6004799503160661 7205759403792794 c (z * z)
            (z * (z * z)) _ _ _ (pow_pos 236) refl refl refl (square_at_least e e_small z near bounded) (cube_at_least e e_small z near bounded)
            (upper-below _ _) (mul-le-mul bounded bounded) (mul-le-mul bounded (mul-le-mul bounded bounded))
            (leb→le (2 ^ 116 * (2 ^ 52 * 2 ^ 52) + 2 ^ 56 * (2 ^ 52 * (2 ^ 52 * 2 ^ 52)) + 2 ^ 116 * 2 ^ 56) (2 ^ 236) tt)
            (cancelled (2 ^ 290) (2 ^ 784) (6004799503160661 * 2 ^ 121) 7205759403792794 terms z (pow_pos 784) c_below least)))
