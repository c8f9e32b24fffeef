-- The estimate of 1 over the root: it is never above, and it is near. With X = x e², Newton's step e (3 - X) / 2 has the square X (3 - X)²
-- / 4 in units of 1 / x, and 4 - X (3 - X)² is (1 - X)² (4 - X): never below 0, and small where X is near to 1. Assumes nothing.
use mathlib.Core.Path.{◌≡◌, refl, sym, ap, subst}
use Prim.Native.Nat.{ℕ, zero, suc, ◌+◌, ◌-◌, ◌*◌, ◌/◌, ◌%◌, ◌^◌, ◌≤◌, ◌<◌}
use native.Mathlib.Decide.{dec_le}
use native.Mathlib.Nat.{le_trans, le_of_eq, lt_of_not-le, le_of_lt, mul-le-mul, mul-le-mul_left, mul-le-mul_right, le_of_mul-le-mul_right}
use native.Mathlib.Nat.{div-add-mod'}
use native.Mathlib.Omega.{arith}
use lib.Dec.{leb→le}
use Rattle.root.specs.reciprocal_table.Estimates.{estimate_of, units, Within128}
use Rattle.root.proofs.reciprocal_table.EstimateRule.{estimate_rule}
use Rattle.root.specs.table_root.Steps.{refined, reciprocal_of}
use Rattle.root.proofs.table_root.Corrections.{le_of_squares}

abbrev cube : ℕ → ℕ
cube o = o * (o * o)

-- ---- Newton's step, where 1 is o: y (3 o - y)² is 4 o³ less a rest, and the rest is small where y is within a 128th of o

pub record Stepped (o y w : ℕ) : Type 0 where
  pub rest : ℕ
  pub is : y * (w * w) + rest ≡ 4 * cube o
  pub small : rest * 2 ^ 21 ≤ 385 * cube o

above : (u d : ℕ) → (u + 2 * d) * ((2 * u + d) * (2 * u + d)) + d * d * (3 * u + 2 * d) ≡ 4 * cube (u + d)
above u d = omega arith

below : (y d : ℕ) → y * ((2 * y + 3 * d) * (2 * y + 3 * d)) + d * d * (3 * y + 4 * d) ≡ 4 * cube (y + d)
below y d = omega arith

-- d is a 128th of o at most, and s at most 385 / 128 of it
small_rest : (o d s : ℕ) → 128 * d ≤ o → 128 * s ≤ 385 * o → d * d * s * 2 ^ 21 ≤ 385 * cube o
small_rest o d s a b = shape (mul-le-mul (mul-le-mul a a) b)
  where
    shape : 128 * d * (128 * d) * (128 * s) ≤ o * o * (385 * o) → d * d * s * 2 ^ 21 ≤ 385 * cube o
    shape h = omega arith

of-above : (o y w u d : ℕ) → o ≡ u + d → y ≡ u + 2 * d → w ≡ 2 * u + d → 128 * d ≤ o → Stepped o y w
of-above o y w u d eo ey ew l =
    record { rest = d * d * (3 * u + 2 * d); is = rw (ey, ew, eo) (above u d); small = small_rest o d (3 * u + 2 * d) l (omega arith) }

of-below : (o y w d : ℕ) → o ≡ y + d → w ≡ 2 * y + 3 * d → 128 * d ≤ o → Stepped o y w
of-below o y w d eo ew l =
    record { rest = d * d * (3 * y + 4 * d); is = rw (ew, eo) (below y d); small = small_rest o d (3 * y + 4 * d) l (omega arith) }

pub newton : (o y w : ℕ) → y + w ≡ 3 * o → 127 * o ≤ 128 * y → 128 * y ≤ 129 * o → Stepped o y w
newton o y w e a b = go (dec_le o y)
  where
    go : Dec (o ≤ y) → Stepped o y w
    go (yes h) = of-above o y w (o - (y - o)) (y - o) (omega arith) (omega arith) (omega arith) (omega arith)
    go (no h) = of-below o y w (o - y) (omega (arith, lt_of_not-le h)) (omega (arith, lt_of_not-le h)) (omega (arith, lt_of_not-le h))

-- ---- rounded down: raw is w e, v is raw / p, and x e² is y

module _ (o x e y w raw p v f : ℕ) (ey : y ≡ x * (e * e)) (er : raw ≡ w * e) (ev : v * p + f ≡ raw) (lf : f < p) (s : Stepped o y w) where
  square_of : x * (raw * raw) ≡ y * (w * w)
  square_of = rw (er, ey) (omega arith)

  pub square_most : x * (v * v) * (p * p) ≤ 4 * cube o
  square_most = le_trans (le_trans (shape (mul-le-mul_left x (mul-le-mul down down))) (le_of_eq square_of)) (omega (arith, s.is))
    where
      down : v * p ≤ raw
      down = omega arith

      shape : x * (v * p * (v * p)) ≤ x * (raw * raw) → x * (v * v) * (p * p) ≤ x * (raw * raw)
      shape h = omega arith

  -- what rounding takes off the square
  pub square_least : 4 * cube o ≤ x * (v * v) * (p * p) + 2 * (p * (x * raw)) + s.rest
  square_least = go (rounding (mul-le-mul_left x (mul-le-mul_right raw (le_of_lt lf))))
    where
      rounding : x * (f * raw) ≤ x * (p * raw) → x * (raw * raw) ≤ x * (v * v) * (p * p) + 2 * (p * (x * raw))
      rounding h = omega (arith, ap (λ (k : ℕ). x * (k * k)) ev, ap (λ (k : ℕ). x * (f * k)) ev)

      go :
          x * (raw * raw) ≤ x * (v * v) * (p * p) + 2 * (p * (x * raw))
          → 4 * cube o ≤ x * (v * v) * (p * p) + 2 * (p * (x * raw)) + s.rest
      go h = omega (arith, s.is, square_of)

-- ---- at the table's units: o is 2^48, p is 2^30, and m is at most x 2^28

-- v, in units of 2^-31, is at most 1 over the root of m / 2^52; and its square times x, in units of 2^-24, is near to 1
pub record Reciprocal (m v : ℕ) : Type 0 where
  pub under : m * (v * v) ≤ 2 ^ 114
  pub near : 2 ^ 86 ≤ units m * (v * v) + 386 * 2 ^ 63
  pub most : v ≤ 2 ^ 31
  pub some : 0 < v

scaled : (m x a pp q c : ℕ) → m ≤ x * q → x * a * pp ≤ c → m * a * pp ≤ q * c
scaled m x a pp q c h k = le_trans (mul-le-mul_right pp (mul-le-mul_right a h)) (le_trans (shape x q a pp) (mul-le-mul_left q k))
  where
    shape : (x q a pp : ℕ) → x * q * a * pp ≤ q * (x * a * pp)
    shape x q a pp = omega arith

parts : (a b c d s t pp : ℕ) → 0 < pp → a * pp ≤ d * pp + s + t → s ≤ b * pp → t ≤ c * pp → a ≤ d + b + c
parts a b c d s t pp p h k l = le_of_mul-le-mul_right {k = pp} (omega arith) p

most-of : (m v : ℕ) → 2 ^ 52 ≤ m → m * (v * v) ≤ 2 ^ 114 → v ≤ 2 ^ 31
most-of m v lo h =
    le_of_squares v (2 ^ 31) (le_of_mul-le-mul_right {k = 2 ^ 52} (shape (le_trans (mul-le-mul_right (v * v) lo) h)) (omega arith))
  where
    shape : 2 ^ 52 * (v * v) ≤ 2 ^ 114 → v * v * 2 ^ 52 ≤ 2 ^ 31 * 2 ^ 31 * 2 ^ 52
    shape k = omega arith

some_of : (x v : ℕ) → 2 ^ 86 ≤ x * (v * v) + 386 * 2 ^ 63 → 0 < v
some_of x zero h = absurd (go (x * (0 * 0)) (omega arith) h)
  where
    go : (a : ℕ) → a ≡ 0 → 2 ^ 86 ≤ a + 386 * 2 ^ 63 → ⊥
    go a e k = omega arith
some_of x (suc v) h = omega arith

module _ (m e : ℕ) (lo : 2 ^ 52 ≤ m) (hi : m < 2 ^ 54) (short : e < 2 ^ 12) (c : Within128 (units m) e) where
  abbrev x : ℕ
  x = units m

  abbrev y : ℕ
  y = x * (e * e)

  abbrev w : ℕ
  w = 3 * 2 ^ 48 - y

  abbrev raw : ℕ
  raw = 3 * 2 ^ 48 * e - x * (e * e * e)

  abbrev v : ℕ
  v = raw / 2 ^ 30

  joined : y + w ≡ 3 * 2 ^ 48
  joined = omega (arith, c.to)

  raw_is : raw ≡ w * e
  raw_is = go (x * (e * e)) w (x * (e * e * e)) joined (shape x e)
    where
      shape : (x e : ℕ) → x * (e * e * e) ≡ x * (e * e) * e
      shape x e = omega arith

      go : (y w t : ℕ) → y + w ≡ 3 * 2 ^ 48 → t ≡ y * e → 3 * 2 ^ 48 * e - t ≡ w * e
      go y w t k l = omega (arith, ap (λ (a : ℕ). a * e) k)

  pub raw_room : x * (e * e * e) ≤ 3 * 2 ^ 48 * e
  raw_room = le_trans (le_of_eq (shape x e)) (mul-le-mul_right e (omega (arith, c.to)))
    where
      shape : (x e : ℕ) → x * (e * e * e) ≡ x * (e * e) * e
      shape x e = omega arith

  raw_most : x * raw ≤ 2 ^ 26 * (2 ^ 50 * 2 ^ 12)
  raw_most =
      let xm : x ≤ 2 ^ 26 = omega arith in
      let wm : w ≤ 2 ^ 50 = omega (arith, c.from) in
      mul-le-mul xm (subst (λ (k : ℕ). k ≤ 2 ^ 50 * 2 ^ 12) (sym raw_is) (mul-le-mul wm (le_of_lt short)))

  stepped : Stepped (2 ^ 48) y w
  stepped = newton (2 ^ 48) y w joined (omega (arith, c.from)) (omega (arith, c.to))

  under : m * (v * v) ≤ 2 ^ 114
  under =
      le_of_mul-le-mul_right {k = 2 ^ 30 * 2 ^ 30}
      (le_trans
      (scaled m x (v * v) (2 ^ 30 * 2 ^ 30) (2 ^ 28) (4 * cube (2 ^ 48)) (omega arith)
      (square_most (2 ^ 48) x e y w raw (2 ^ 30) v (raw % 2 ^ 30) refl raw_is (div-add-mod' raw (2 ^ 30)) (omega arith) stepped))
      (leb→le _ _ tt))
      (leb→le _ _ tt)

  near : 2 ^ 86 ≤ x * (v * v) + 386 * 2 ^ 63
  near =
      let l = parts (2 ^ 86) (2 ^ 59) (385 * 2 ^ 63) (x * (v * v)) (2 * (2 ^ 30 * (x * raw))) stepped.rest (2 ^ 30 * 2 ^ 30)
      (leb→le _ _ tt)
      (le_trans (leb→le (2 ^ 86 * (2 ^ 30 * 2 ^ 30)) (4 * cube (2 ^ 48)) tt)
      (square_least (2 ^ 48) x e y w raw (2 ^ 30) v (raw % 2 ^ 30) refl raw_is (div-add-mod' raw (2 ^ 30)) (omega arith) stepped))
      (le_trans (mul-le-mul_left 2 (mul-le-mul_left (2 ^ 30) raw_most)) (leb→le _ _ tt))
      (le_of_mul-le-mul_right {k = 2 ^ 21} (le_trans stepped.small (leb→le _ _ tt)) (leb→le _ _ tt)) in
      go (x * (v * v)) l
    where
      go : (a : ℕ) → 2 ^ 86 ≤ a + 2 ^ 59 + 385 * 2 ^ 63 → 2 ^ 86 ≤ a + 386 * 2 ^ 63
      go a h = omega arith

  of_estimate : Reciprocal m v
  of_estimate = record { under = under; near = near; most = most-of m v lo under; some = some_of x v near }

pub reciprocal_near : (m : ℕ) → 2 ^ 52 ≤ m → m < 2 ^ 54 → Reciprocal m (reciprocal_of m)
unfolding reciprocal_of refined
reciprocal_near m lo hi = of_estimate m (estimate_of m) lo hi (estimate_rule.short m hi) (estimate_rule.close m lo hi)
