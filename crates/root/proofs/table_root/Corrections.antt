-- One correction step, over any number v near to 1 over twice the root: it never goes above the root, and what it leaves of the rest is
-- little. N = r² + R is the number under the root, v stands for v / M, and M is 2 v times the root or more. Assumes nothing.
use mathlib.Core.Path.{◌≡◌, sym, ap, subst}
use mathlib.Core.Logic.{◌⊎◌, inl, inr}
use Prim.Native.Nat.{ℕ, ◌+◌, ◌-◌, ◌*◌, ◌^◌, ◌≤◌, ◌<◌}
use native.Mathlib.Nat.{le_trans, mul-le-mul, mul-le-mul_left, mul-le-mul_right, le_of_mul-le-mul_right, mul-pos}
use native.Mathlib.Nat.{eq-or-lt_of_le}
use native.Mathlib.Omega.{arith}
use Rattle.arith.proofs.Squares.{square_lt, lt_of_squares}

-- a number is at most another, if its square is
pub le_of_squares : (a b : ℕ) → a * a ≤ b * b → a ≤ b
le_of_squares a b h = let l : a < b + 1 = lt_of_squares (b * b) a (b + 1) h (square_lt b (b + 1) (omega arith)) in omega arith

-- v / M is at most 1 over twice the root, and less than it by at most 7 / 2^17 of itself
pub record Near (r R v M : ℕ) : Type 0 where
  pub under : 4 * ((r * r + R) * (v * v)) ≤ M * M
  pub near : M * 2 ^ 17 ≤ 2 * (r * v) * 2 ^ 17 + 7 * M

-- in units that are finer by s
pub raised : (r R v M s : ℕ) → Near r R v M → Near (r * s) (R * (s * s)) v (M * s)
raised r R v M s n =
    record { under = omega (arith, mul-le-mul_right (s * s) n.under); near = omega (arith, mul-le-mul_right s n.near) }

-- 2 r v is at most M
twice : (r R v M : ℕ) → Near r R v M → 2 * (r * v) ≤ M
twice r R v M n = le_of_squares (2 * (r * v)) M (omega (arith, n.under))

-- an addition q that is at most R v / M does not go above the root
module _ (r R v M q : ℕ) (n : Near r R v M) (pv : 0 < v) (pm : 0 < M) (at_most : q * M ≤ R * v) where
  -- q is at most R over twice the root
  quotient : 4 * ((r * r + R) * (q * q)) ≤ R * R
  quotient =
      le_of_mul-le-mul_right {k = v * v}
      (le_trans (first (mul-le-mul_right (q * q) n.under)) (second (mul-le-mul at_most at_most)))
      (mul-pos pv pv)
    where
      first : 4 * ((r * r + R) * (v * v)) * (q * q) ≤ M * M * (q * q) → 4 * ((r * r + R) * (q * q)) * (v * v) ≤ q * M * (q * M)
      first h = omega arith

      second : q * M * (q * M) ≤ R * v * (R * v) → q * M * (q * M) ≤ R * R * (v * v)
      second h = omega arith

  pub no_higher : q * (2 * r + q) ≤ R
  no_higher = go (eq-or-lt_of_le (zero-le R))
    where
      zero-le : (a : ℕ) → 0 ≤ a
      zero-le a = omega arith

      first : 2 * (r * q) ≤ R
      first = le_of_squares (2 * (r * q)) R (omega (arith, quotient))

      rest : (c : ℕ) → R ≡ 2 * (r * q) + c → 0 < R → 2 * (q * q) ≤ c
      rest c e p = le_of_mul-le-mul_right {k = R} (shape (omega (arith, quotient, ap (λ (k : ℕ). k * k) e, ap (λ (k : ℕ). k * c) e))) p
        where
          shape : 4 * (R * (q * q)) ≤ 2 * (R * c) → 2 * (q * q) * R ≤ c * R
          shape h = omega arith

      none : 0 ≡ R → q ≡ 0
      none e = zero_of q (le_of_mul-le-mul_right {k = M} (omega (arith, ap (λ (k : ℕ). k * v) e)) pm)
        where
          zero_of : (a : ℕ) → a ≤ 0 → a ≡ 0
          zero_of a h = omega arith

      go : (0 ≡ R) ⊎ (0 < R) → q * (2 * r + q) ≤ R
      go (inl e) = rw (none e) (omega arith)
      go (inr p) = let c = R - 2 * (r * q) in let h = rest c (omega (arith, first)) p in omega (arith, first)

  -- what is left of R, if q is R v / M less one and less t v / M at most
  module _ (t : ℕ) (at_least_lem : R * v ≤ q * M + M + t * v) where
    pub falls : (R' : ℕ) → R' + q * (2 * r + q) ≡ R → R' * 2 ^ 17 ≤ 7 * R + (2 * r + t) * 2 ^ 17
    falls R' e =
        le_of_mul-le-mul_right {k = M}
        (omega (
          arith,
          ap (λ (k : ℕ). k * M) e,
          mul-le-mul_left (2 * r) at_least_lem,
          mul-le-mul_left R n.near,
          mul-le-mul_left t (twice r R v M n),
        ))
        pm

    pub still_near : (R' : ℕ) → R' + q * (2 * r + q) ≡ R → Near (r + q) R' v M
    still_near R' e = record { under = under'; near = omega (arith, n.near) }
      where
        same : (r + q) * (r + q) + R' ≡ r * r + R
        same = omega (arith, e)

        under' : 4 * (((r + q) * (r + q) + R') * (v * v)) ≤ M * M
        under' = subst (λ (k : ℕ). 4 * (k * (v * v)) ≤ M * M) (sym same) n.under
