-- The place is the floor of x/S(1/3), and what is left over it is the rest of x, to three units of 2^-64. Assumes nothing.
-- In whole numbers: S(1/3) = N / D, x + 1024·S(1/3) = U / (D·b), and w is that in units of 1 / Z, with `off` for what home is rounded up
-- by, and rounded down.
use Rattle.std.proofs.Common.{◌≡◌, ℕ, ◌+◌, ◌*◌, ◌<◌, ◌≤◌, ap, lt_of_lt_of_le, lt_of_le_of_lt, mul-le-mul_right, lt_of_mul-lt-mul_right, mul-lt-mul_of_pos_right, le_of_mul-le-mul_right, arith}

-- ---- a place k with the border B and the gap g

module _ (N D b Z off k B g w U p r : ℕ) where
  pub rest_not_above :
      r + B ≡ w + g → w * (D * b) ≤ off * b + U * Z → U ≡ p + k * N * b → g * D + (k * N * Z + off) ≤ B * D → r * (D * b) ≤ p * Z
  rest_not_above e l s h =
      omega (arith, ap (λ (x : ℕ). x * (D * b)) e, l, ap (λ (x : ℕ). x * Z) s, mul-le-mul_right b h)

  pub rest_not_below : r + B ≡ w + g → off * b + U * Z ≤ w * (D * b) + D * b → U ≡ p + k * N * b → B * D ≤ (g + 2) * D + (k * N * Z + off)
      → p * Z ≤ (r + 3) * (D * b)
  rest_not_below e l s h =
      omega (arith, ap (λ (x : ℕ). x * (D * b)) e, l, ap (λ (x : ℕ). x * Z) s, mul-le-mul_right b h)

module _ (N D b Z off k B w U : ℕ) where
  -- the border is not above x ..
  pub floor_from : (g : ℕ) → 0 < Z → g * D + (k * N * Z + off) ≤ B * D → B ≤ w → w * (D * b) ≤ off * b + U * Z → k * N * b ≤ U
  floor_from g z h l u =
      le_of_mul-le-mul_right {k = Z} (omega (arith, mul-le-mul_right b h, mul-le-mul_right (D * b) l, u)) z

  -- .. and x, if nothing was rounded off, is below the border of the next place, which is less than 2048 units above its multiple
  pub floor_below : 0 < b → B * D < k * N * Z + off + 2048 * D → w + 2048 ≤ B → off * b + U * Z ≤ w * (D * b) → U < k * N * b
  floor_below bp h l u =
      lt_of_mul-lt-mul_right Z (omega (arith, mul-lt-mul_of_pos_right h bp, mul-le-mul_right (D * b) l, u))

-- ---- x to w: f is a·Z/b, rounded down for x = a / b and up for x = - a / b; H is where 0 is raised to

module _ (N D b Z off H a w U f : ℕ) (hoff : off + 1024 * N * Z ≡ H * D) where
  pub up_not_above : w ≡ H + f → U ≡ 1024 * N * b + a * D → f * b ≤ a * Z → w * (D * b) ≤ off * b + U * Z
  up_not_above e u l =
      omega (arith, ap (λ (x : ℕ). x * (D * b)) e, ap (λ (x : ℕ). x * Z) u, ap (λ (x : ℕ). x * b) hoff, mul-le-mul_right D l)

  pub up_not_below : w ≡ H + f → U ≡ 1024 * N * b + a * D → a * Z ≤ f * b + b → off * b + U * Z ≤ w * (D * b) + D * b
  up_not_below e u l =
      omega (arith, ap (λ (x : ℕ). x * (D * b)) e, ap (λ (x : ℕ). x * Z) u, ap (λ (x : ℕ). x * b) hoff, mul-le-mul_right D l)

  pub up_exact : w ≡ H + f → U ≡ 1024 * N * b + a * D → a * Z ≤ f * b → off * b + U * Z ≤ w * (D * b)
  up_exact e u l = omega (arith, ap (λ (x : ℕ). x * (D * b)) e, ap (λ (x : ℕ). x * Z) u, ap (λ (x : ℕ). x * b) hoff, mul-le-mul_right D l)

  pub down_not_above : w + f ≡ H → U + a * D ≡ 1024 * N * b → a * Z ≤ f * b → w * (D * b) ≤ off * b + U * Z
  down_not_above e u l =
      omega (arith, ap (λ (x : ℕ). x * (D * b)) e, ap (λ (x : ℕ). x * Z) u, ap (λ (x : ℕ). x * b) hoff, mul-le-mul_right D l)

  pub down_not_below : w + f ≡ H → U + a * D ≡ 1024 * N * b → f * b ≤ a * Z + b → off * b + U * Z ≤ w * (D * b) + D * b
  down_not_below e u l =
      omega (arith, ap (λ (x : ℕ). x * (D * b)) e, ap (λ (x : ℕ). x * Z) u, ap (λ (x : ℕ). x * b) hoff, mul-le-mul_right D l)

  pub down_exact : w + f ≡ H → U + a * D ≡ 1024 * N * b → f * b ≤ a * Z → off * b + U * Z ≤ w * (D * b)
  down_exact e u l = omega (arith, ap (λ (x : ℕ). x * (D * b)) e, ap (λ (x : ℕ). x * Z) u, ap (λ (x : ℕ). x * b) hoff, mul-le-mul_right D l)

-- ---- the largest rest

-- r·D·b ≤ p·Z with p below N·b, and N·Z below (most + 1)·D
pub rest-most : (N D b Z p r most : ℕ) → r * (D * b) ≤ p * Z → p < N * b → 0 < Z → N * Z ≤ (most + 1) * D → r ≤ most
rest-most N D b Z p r most h l z m =
    go (lt_of_mul-lt-mul_right (D * b) (lt_of_lt_of_le (lt_of_le_of_lt h (mul-lt-mul_of_pos_right l z))
    (omega (arith, mul-le-mul_right b m))))
  where
    go : r < most + 1 → r ≤ most
    go e = omega arith
