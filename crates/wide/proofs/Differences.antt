-- When a difference is told by `left`, and when it is not. Assumes nothing.
use Rattle.std.proofs.Common.{◌≡◌, ℕ, ◌+◌, ◌-◌, ◌*◌, ◌%◌, ◌^◌, ◌<◌, ◌≤◌, min, Bool, true, false, cond, leb, refl, mul-le-mul_right, arith, le-leb, leb-true}
use native.Mathlib.Decide.{dec_lt}
use borrow.Author.Tests.{lt-leb}
use Rattle.arith.proofs.Branches.{taken, left}
use Rattle.wide.specs.Products.{left_of}

pub told : (a b r : ℕ) → r + b ≡ a → r < 2 ^ 64 → r ≡ left_of a b
unfolding left_of
told a b r e small = taken (2 ^ 64 - 1) (le-leb b a (omega arith)) (omega arith)

pub too_large : (a b : ℕ) → 2 ^ 64 - 1 ≤ a - b → 2 ^ 64 - 1 ≡ left_of a b
unfolding left_of
too_large a b i = taken (2 ^ 64 - 1) (le-leb b a (omega arith)) (omega arith)

pub below-zero : (a b : ℕ) → a < b → 2 ^ 64 - 1 ≡ left_of a b
unfolding left_of
below-zero a b i = left (min (a - b) (2 ^ 64 - 1)) (lt-leb b a i) refl

-- what a caller learns from an answer below the largest
pub over : (a b : ℕ) → left_of a b < 2 ^ 64 - 1 → left_of a b + b ≡ a
unfolding left_of
over a b = go (leb b a) (leb-true b a)
  where
    go :
        (t : Bool) → (t ≡ true → b ≤ a) → cond t (min (a - b) (2 ^ 64 - 1)) (2 ^ 64 - 1) < 2 ^ 64 - 1
        → cond t (min (a - b) (2 ^ 64 - 1)) (2 ^ 64 - 1) + b ≡ a
    go false h small = omega arith
    go true h small = omega (arith, h refl)

-- what a difference that wraps has to make up for
pub wrapped : (l m r b : ℕ) → (r + m) % 2 ^ 64 ≡ l → r < 2 ^ 64 → m < 2 ^ 64 → b ≡ 1 - (l + 1 - m) → r + m ≡ l + b * 2 ^ 64
wrapped l m r b e i j h = go (dec_lt l m)
  where
    over : (x : ℕ) → x % 2 ^ 64 ≡ l → x < 2 ^ 64 + 2 ^ 64 → l < x → x ≡ l + 2 ^ 64
    over x e i j = omega arith

    not-over : (x : ℕ) → x % 2 ^ 64 ≡ l → x < 2 ^ 64 + l → x ≡ l + 0
    not-over x e i = omega arith

    go : Dec (l < m) → r + m ≡ l + b * 2 ^ 64
    go (yes k) = let one : b ≡ 1 = omega arith in rw one (over (r + m) e (omega arith) (omega arith))
    go (no k) = let none : b ≡ 0 = omega arith in rw none (not-over (r + m) e (omega arith))

-- The halves h, l of one number and k, m of another, in any base: r is the difference of the lower ones, and b what it borrows.
module _ (base h l k m r b : ℕ) (lower : r + m ≡ l + b * base) where
  pub borrowed : k ≤ h → h - k ≡ b → r + (k * base + m) ≡ h * base + l
  borrowed i e = let apart : h ≡ k + b = omega arith in rw apart (omega arith)

  pub below_borrow : k ≤ h → h - k < b → r < base → h * base + l < k * base + m
  below_borrow i j n = let apart : h + 1 ≤ k + b = omega arith in omega (arith, mul-le-mul_right base apart)

  pub above_borrow : k ≤ h → b < h - k → base ≤ h * base + l - (k * base + m)
  above_borrow i j = let apart : k + b + 1 ≤ h = omega arith in omega (arith, mul-le-mul_right base apart)

pub upper_half : (base h l k m : ℕ) → h < k → l < base → h * base + l < k * base + m
upper_half base h l k m i j = omega (arith, mul-le-mul_right base i)
