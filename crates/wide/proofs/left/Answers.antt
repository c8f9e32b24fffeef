-- `left` meets its contract: the difference is told where the upper halves are as far apart as the lower ones borrow; every other is below 0
-- or does not fit. Assumes nothing.
use Rattle.std.proofs.Common.{◌≡◌, ℕ, ◌+◌, ◌-◌, ◌*◌, ◌^◌, ◌<◌, ◌≤◌, arith}
use native.Mathlib.Decide.{dec_lt}
use Rattle.wide.specs.Products.{whole_of, left_of}
use Rattle.wide.proofs.Differences.{told, too_large, below-zero, wrapped, borrowed, below_borrow, above_borrow, upper_half}
use Rattle.wide.proofs.left.Goals as goal

pub returns-then-n-p : goal.returns-then-n-p
unfolding whole_of
returns-then-n-p c =
    told _ _ _
    (borrowed (2 ^ 64) _ _ _ _ _ _ (wrapped _ _ _ _ c.wrapping_sub_u64-rest.ensures.value (omega arith) (omega arith) c.below.ensures)
    (omega arith) (omega arith))
    (omega arith)

-- upper halves that are nearer or further apart
not_told :
    (h l k m r b : ℕ) → r + m ≡ l + b * 2 ^ 64 → k ≤ h → (h - k ≡ b → ⊥) → r < 2 ^ 64
    → 2 ^ 64 - 1 ≡ left_of (h * 2 ^ 64 + l) (k * 2 ^ 64 + m)
not_told h l k m r b lower i n small = go (dec_lt (h - k) b)
  where
    go : Dec (h - k < b) → 2 ^ 64 - 1 ≡ left_of (h * 2 ^ 64 + l) (k * 2 ^ 64 + m)
    go (yes j) = below-zero _ _ (below_borrow (2 ^ 64) h l k m r b lower i j small)
    go (no j) = too_large _ _ (most (above_borrow (2 ^ 64) h l k m r b lower i (above (h - k) j n)))
      where
        most : {x : ℕ} → 2 ^ 64 ≤ x → 2 ^ 64 - 1 ≤ x
        most h = omega arith

        above : (x : ℕ) → (x < b → ⊥) → (x ≡ b → ⊥) → b < x
        above x j n = omega arith

pub returns-else-n-p : goal.returns-else-n-p
unfolding whole_of
returns-else-n-p c =
    not_told _ _ _ _ _ _ (wrapped _ _ _ _ c.wrapping_sub_u64-rest.ensures.value (omega arith) (omega arith) c.below.ensures)
    (omega arith) c.if-n-p.false (omega arith)

pub returns-else-p-n : goal.returns-else-p-n
unfolding whole_of
returns-else-p-n c = below-zero _ _ (upper_half (2 ^ 64) _ _ _ _ (omega arith) (omega arith))
