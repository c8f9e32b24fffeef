-- `rounded` meets its contract: where no middle between two numbers lies within the estimate's error, the estimate is rounded as the sum is.
-- Assumes nothing.
use Rattle.std.proofs.Common.{◌≡◌, ℕ, ◌+◌, ◌/◌, ◌%◌, ◌^◌, ◌<◌, ◌≤◌, sym, ap, subst, arith, lit<}
use Rattle.rounding.specs.Within.{Within}
use Rattle.exponential.specs.Steps.{horner}
use Rattle.exponential.proofs.Horner.{horner-most}
use Rattle.exponential.proofs.NearSums.{near_sum}
use Rattle.exponential.proofs.sum.rounded.Goals as goal
use Rattle.exponential.proofs.sum.rounded.Goals.{After-near_sum-near}

no_middle : (v h w : ℕ) → (w + 12) % 2 ^ 64 ≡ (v + 512) % 1024 → w < 1000 → Within v h 12 → (v + 512) / 1024 ≡ (h + 512) / 1024
no_middle v h w e l n = go n.not-above n.not-below
  where
    go : v ≤ h + 12 → h ≤ v + 12 → (v + 512) / 1024 ≡ (h + 512) / 1024
    go a b = let plain : w + 12 ≡ (v + 512) % 1024 = omega arith in omega arith

-- past the estimate
module _ (c : After-near_sum-near) where
  abbrev r : ℕ
  r = c.args.r

  near : Within c.near_sum-near.result (horner r 39) 12
  near = subst (λ (v : ℕ). Within v (horner r 39) 12) (sym c.near_sum-near.ensures) (near_sum r c.requires)

  most : horner r 39 ≤ 2 ^ 63 + 1024
  most = horner-most r 39 c.requires (lit< tt)

pub overflow_add-near : goal.overflow_add-near
overflow_add-near c = omega (arith, (near c).not-above, most c)

pub returns-then-wrapping_sub_u64-lt1000 : goal.returns-then-wrapping_sub_u64-lt1000
returns-then-wrapping_sub_u64-lt1000 c =
    no_middle _ (horner c.args.r 39) _ c.wrapping_sub_u64.ensures.value c.if-wrapping_sub_u64-lt1000.true (near c.before.before)

pub overflow_add-result : goal.overflow_add-result
overflow_add-result c = omega (arith, c.sum.ensures, most c.before.before.before)

pub returns : goal.returns
returns c = ap (λ (v : ℕ). (v + 512) / 1024) c.sum.ensures
