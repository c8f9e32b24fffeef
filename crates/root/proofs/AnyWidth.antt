-- The rounding of a root to p + 1 binary digits, once for every p: it is in range, and nearest with no tie. Assumes nothing.
use mathlib.Core.Path.{◌≡◌, sym, ap, subst}
use mathlib.Core.Logic.{◌⊎◌, inl, inr}
use mathlib.Core.Bool.{Bool, true, false, cond}
use Prim.Native.Nat.{ℕ, ◌+◌, ◌-◌, ◌*◌, ◌^◌, ◌≤◌, ◌<◌}
use native.Mathlib.Nat.{eq-or-lt_of_le, lt_of_lt_of_le}
use native.Mathlib.Omega.{arith}
use lib.Dec.{T, ltb, ltb→lt}
use Rattle.root.specs.Steps.{whole_root, round_root}
use Rattle.root.proofs.WholeRoots.{IsRoot, below, whole_is}
use Rattle.root.proofs.RoundedRoots.{WithinHalf, rounded}

-- r has p + 1 digits, where P is 2^p, and is nearest to the root of n
pub record Rounds (P n r : ℕ) : Type 0 where
  pub from : P ≤ r
  pub to : r < 2 * P
  pub nearest : WithinHalf n r

-- n is from P² up to (2P)² less 2P, so that the root does not round up to 2P
module _ (P n : ℕ) (pp : 0 < P) (lo : P * P ≤ n) (hi : n + 2 * P ≤ 4 * (P * P)) where
  least : (q : ℕ) → IsRoot n q → P ≤ q
  least q i = below n P q lo i.1

  most : (q : ℕ) → IsRoot n q → q ≤ 2 * P - 1
  most q i =
      let e : 2 * P - 1 + 1 ≡ 2 * P = omega arith in
      below n q (2 * P - 1) i.0 (subst (λ (k : ℕ). n < k * k) (sym e) (omega arith))

  in_range : (q : ℕ) → IsRoot n q → (b : Bool) → (T b → q < n - q * q) → (P ≤ cond b (q + 1) q) × (cond b (q + 1) q < 2 * P)
  in_range q i false y = (least q i, omega (arith, most q i))
  in_range q i true y = (omega (arith, least q i), go (eq-or-lt_of_le (most q i)))
    where
      none : q < n - q * q → (q + 1) * (q + 1) ≡ 2 * P * (2 * P) → q + 1 ≡ 2 * P → ⊥
      none h f g = omega arith

      go : (q ≡ 2 * P - 1) ⊎ (q < 2 * P - 1) → q + 1 < 2 * P
      go (inl e) =
          let g : q + 1 ≡ 2 * P = omega arith in
          absurd (none (y tt) (ap (λ (k : ℕ). k * k) g) g)
      go (inr e) = omega arith

  pub root_rounds : (k : ℕ) → n < 4 ^ k → Rounds P n (round_root n (whole_root k n))
  unfolding round_root
  root_rounds k h =
      let q = whole_root k n in
      let i = whole_is k n h in
      let r = in_range q i (ltb q (n - q * q)) (ltb→lt q (n - q * q)) in
      record { from = r.0; to = r.1; nearest = rounded n q (lt_of_lt_of_le pp (least q i)) i }
