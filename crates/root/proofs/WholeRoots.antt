-- The whole part of a root: `whole_root` is it, and there is only one. Assumes nothing.
use mathlib.Core.Path.{◌≡◌, subst}
use mathlib.Core.Bool.{Bool, true, false, cond, not}
use Prim.Native.Nat.{ℕ, zero, suc, ◌+◌, ◌*◌, ◌/◌, ◌^◌, ◌≤◌, ◌<◌}
use native.Mathlib.Nat.{pow-suc, le_antisymm, div-lt_iff_lt-mul}
use native.Mathlib.Omega.{arith}
use lib.Dec.{T, leb, leb→le, nleb→lt}
use Rattle.arith.proofs.Squares.{lt_of_squares}
use Rattle.root.specs.Steps.{whole_root}

-- q is the whole part of the root of n
abbrev pub IsRoot : ℕ → ℕ → Type 0
IsRoot n q = (q * q ≤ n) × (n < (q + 1) * (q + 1))

pub below : (n p q : ℕ) → p * p ≤ n → n < (q + 1) * (q + 1) → p ≤ q
below n p q a b = let h = lt_of_squares n p (q + 1) a b in omega arith

-- two ways to find a whole root agree
pub unique : (n p q : ℕ) → IsRoot n p → IsRoot n q → p ≡ q
unique n p q a b = le_antisymm (below n p q a.0 b.1) (below n q p b.0 a.1)

-- one digit more
digit : (n r : ℕ) → IsRoot (n / 4) r → IsRoot n (cond (leb ((2 * r + 1) * (2 * r + 1)) n) (2 * r + 1) (2 * r))
digit n r a = go (leb ((2 * r + 1) * (2 * r + 1)) n) (leb→le ((2 * r + 1) * (2 * r + 1)) n) (nleb→lt ((2 * r + 1) * (2 * r + 1)) n)
  where
    go :
        (b : Bool) → (T b → (2 * r + 1) * (2 * r + 1) ≤ n) → (T (not b) → n < (2 * r + 1) * (2 * r + 1))
        → IsRoot n (cond b (2 * r + 1) (2 * r))
    go true y z = let h = y tt in (h, omega arith)
    go false y z = (omega arith, z tt)

pub whole_is : (k n : ℕ) → n < 4 ^ k → IsRoot n (whole_root k n)
unfolding whole_root
whole_is zero n h = (omega arith, h)
whole_is (suc k) n h =
    digit n (whole_root k (n / 4)) (whole_is k (n / 4) ((div-lt_iff_lt-mul {k = 4} {x = n} {y = 4 ^ k} (omega arith)).1
    (subst (λ (z : ℕ). n < z) (pow-suc 4 k) h)))
