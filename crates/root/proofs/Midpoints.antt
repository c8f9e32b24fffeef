-- The middle of a root and another double, by squares. The root is q of c units, and what it is the root of is n of c² square units.
-- Assumes nothing.
use mathlib.Core.Path.{◌≡◌, sym, ap, subst}
use Prim.Native.Nat.{ℕ, ◌+◌, ◌-◌, ◌*◌, ◌≤◌, ◌<◌}
use native.Mathlib.Nat.{mul-le-mul, mul-le-mul_right, mul-lt-mul_of_pos_right, mul-mul-mul_comm, mul_assoc, mul-pos, lt_of_le_of_lt}
use native.Mathlib.Nat.{lt_of_lt_of_le}
use native.Mathlib.Omega.{arith}
use Rattle.arith.proofs.Squares.{square_lt}
use Rattle.root.proofs.RoundedRoots.{WithinHalf}

module _ (q n c w : ℕ) (C : 0 < c) (r : WithinHalf n q) (Q : 0 < q) where
  CC : 0 < c * c
  CC = mul-pos C C

  square_in : (p : ℕ) → p * c * (p * c) ≡ p * p * (c * c)
  square_in p = mul-mul-mul_comm p c p c

  four_in : 4 * n * (c * c) ≡ 4 * (n * (c * c))
  four_in = mul_assoc 4 n (c * c)

  -- a w that is c below, or more
  pub middle_below : w + c ≤ q * c → (w + q * c) * (w + q * c) < 4 * (n * (c * c))
  middle_below h =
      let p = 2 * q - 1 in
      let e : p + 1 ≡ 2 * q = omega arith in
      let m : (p + 1) * c ≡ 2 * q * c = ap (λ (k : ℕ). k * c) e in
      let l : w + q * c ≤ p * c = omega arith in
      lt_of_le_of_lt (mul-le-mul l l) (subst (λ (k : ℕ). k < 4 * (n * (c * c))) (sym (square_in p))
      (subst (λ (k : ℕ). p * p * (c * c) < k) four_in (mul-lt-mul_of_pos_right r.over CC)))

  -- a w that is c above, or more
  pub middle_above : q * c + c ≤ w → 4 * (n * (c * c)) < (q * c + w) * (q * c + w)
  middle_above h =
      let p = 2 * q + 1 in
      let l : p * c ≤ q * c + w = omega arith in
      lt_of_lt_of_le (subst (λ (k : ℕ). 4 * (n * (c * c)) < k) (sym (square_in p))
      (subst (λ (k : ℕ). k < p * p * (c * c)) four_in (mul-lt-mul_of_pos_right r.under CC))) (mul-le-mul l l)

  -- any smaller w, where q is not above the root
  pub middle_under_root : q * q ≤ n → w < q * c → (w + q * c) * (w + q * c) < 4 * (n * (c * c))
  middle_under_root a h = go (q * c) h (subst (λ (k : ℕ). k ≤ n * (c * c)) (sym (square_in q)) (mul-le-mul_right (c * c) a))
    where
      go : (v : ℕ) → w < v → v * v ≤ n * (c * c) → (w + v) * (w + v) < 4 * (n * (c * c))
      go v k m = lt_of_lt_of_le (square_lt (w + v) (2 * v) (omega arith)) (omega arith)
