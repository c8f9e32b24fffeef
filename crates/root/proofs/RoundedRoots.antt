-- `round_root` makes the nearest whole number of the whole part of a root, and there is no tie. Which number it is can be told with no root
-- taken. Assumes nothing.
use mathlib.Core.Path.{◌≡◌, refl, sym, ap, ◌∙◌}
use mathlib.Core.Bool.{Bool, true, false, cond, not}
use Prim.Native.Nat.{ℕ, zero, suc, ◌+◌, ◌-◌, ◌*◌, ◌^◌, ◌≤◌, ◌<◌}
use native.Mathlib.Decide.{dec_le}
use native.Mathlib.Nat.{mul-suc, lt_of_not-le}
use native.Mathlib.Omega.{arith}
use borrow.Author.Tests.{lt-ltb, le-ltb}
use lib.Dec.{T, ltb, ltb→lt, nltb→le}
use Rattle.arith.proofs.Branches.{taken, left}
use Rattle.arith.proofs.Squares.{square_of_odd_below}
use Rattle.root.specs.Steps.{whole_root, round_root, near_root}
use Rattle.root.proofs.WholeRoots.{IsRoot, unique, whole_is}

-- the root of n is less than a half away from r: (2r - 1)² < 4n < (2r + 1)². No odd square is 4n, so "not more than" would say the same.
pub record WithinHalf (n r : ℕ) : Type 0 where
  pub over : (2 * r - 1) * (2 * r - 1) < 4 * n
  pub under : 4 * n < (2 * r + 1) * (2 * r + 1)

-- r² < n + r and n ≤ r² + r say it without halves
within_half : (n r : ℕ) → 0 < r → r * r < n + r → n ≤ r * r + r → WithinHalf n r
within_half n r p a b = record { over = omega (arith, square_of_odd_below r p); under = omega arith }

pub rounded : (n q : ℕ) → 0 < q → IsRoot n q → WithinHalf n (round_root n q)
unfolding round_root
rounded n q p i = go (ltb q (n - q * q)) (ltb→lt q (n - q * q)) (nltb→le q (n - q * q))
  where
    go : (b : Bool) → (T b → q < n - q * q) → (T (not b) → n - q * q ≤ q) → WithinHalf n (cond b (q + 1) q)
    go true y z = let h = y tt in within_half n (q + 1) (omega arith) (omega arith) (omega arith)
    go false y z = let h = z tt in within_half n q p (omega arith) (omega arith)

-- the nearest number by the whole part of the root and the rest over its square
pub by-rest : (n root rem : ℕ) → root * root + rem ≡ n → rem ≤ 2 * root → n < 4 ^ 53 → near_root n ≡ cond (ltb root rem) (root + 1) root
unfolding near_root round_root
by-rest n root rem e b l =
    let r : n - root * root ≡ rem = omega arith in
    ap (round_root n) (unique n (whole_root 53 n) root (whole_is 53 n l) (omega arith, omega arith))
    ∙ ap (λ (k : ℕ). cond (ltb root k) (root + 1) root) r

-- r (r - 1) is r² - r
pub product_below : (r : ℕ) → r * (r - 1) + r ≡ r * r
product_below zero = refl
product_below (suc q) = ap (λ (k : ℕ). suc q * k + suc q) (omega arith) ∙ sym (mul-suc (suc q) q)

-- The number nearest to the root of a positive n is the r with r (r - 1) < n ≤ r (r + 1): the root lies between the middles r - ½ and r +
-- ½, whose squares are r (r - 1) + ¼ and r (r + 1) + ¼, and n is whole, so the quarters fall away.
pub is_nearest : (n r : ℕ) → n < 4 ^ 53 → r * (r - 1) < n → n ≤ r * (r + 1) → r ≡ near_root n
is_nearest n r l a b = go (dec_le (r * r) n)
  where
    go : Dec (r * r ≤ n) → r ≡ near_root n
    go (yes h) =
        let rem = n - r * r in
        left (r + 1) (le-ltb r rem (omega arith)) refl ∙ sym (by-rest n r rem (omega arith) (omega arith) l)
    go (no h) =
        let q = r - 1 in
        let rem = n - q * q in
        let less : n < r * r = lt_of_not-le h in
        let product = product_below r in
        let e : q + 1 ≡ r = omega arith in
        let square : (q + 1) * (q + 1) ≡ r * r = ap (λ (k : ℕ). k * k) e in
        taken q (lt-ltb q rem (omega arith)) (sym e) ∙ sym (by-rest n q rem (omega arith) (omega arith) l)
