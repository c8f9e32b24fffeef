-- `summed` meets its contract: where no multiple of 2048 lies within the estimate's error, the sum with the estimate has the units of 2^-53
-- that the sum with the series has. Assumes nothing.
use Rattle.std.proofs.Common.{◌≡◌, ℕ, ◌+◌, ◌*◌, ◌/◌, ◌%◌, ◌^◌, ◌<◌, ◌≤◌, ap, le_trans, arith}
use Rattle.logarithm.specs.Steps.{short_series_of}
use Rattle.logarithm.proofs.ShortSeries.{short_series_le}
use Rattle.logarithm.proofs.summed.Goals as goal
use Rattle.logarithm.proofs.summed.Goals.{Start}

no_border : (s x w : ℕ) → (w + 8) % 2 ^ 64 ≡ s % 2048 → w < 2032 → s ≤ x + 8 → x ≤ s + 8 → s / 2048 ≡ x / 2048
no_border s x w e h a b = let plain : w + 8 ≡ s % 2048 = omega arith in omega arith

-- the series is small
module _ (s : Start) where
  abbrev e : ℕ
  e = s.args.e

  abbrev t : ℕ
  t = s.args.t

  series_small : short_series_of (16 * t) ≤ 2 ^ 57
  series_small = le_trans (short_series_le (16 * t) (omega (arith, s.requires.t_small))) (omega (arith, s.requires.t_small))

pub overflow_mul-sum : goal.overflow_mul-sum
overflow_mul-sum c = omega (arith, c.requires)

pub overflow_add-sum : goal.overflow_add-sum
overflow_add-sum c = omega (arith, c.requires)

pub overflow_add-sum-2 : goal.overflow_add-sum-2
overflow_add-sum-2 c = omega (arith, c.requires)

pub returns-then-wrapping_sub_u64-lt2032 : goal.returns-then-wrapping_sub_u64-lt2032
returns-then-wrapping_sub_u64-lt2032 c =
    no_border _ (c.args.e + short_series_of (16 * c.args.t)) _ c.wrapping_sub_u64.ensures.value c.if-wrapping_sub_u64-lt2032.true
    (omega (arith, c.requires)) (omega (arith, c.requires))

pub overflow_mul-t : goal.overflow_mul-t
overflow_mul-t c = omega (arith, c.requires)

pub short_series-requires : goal.short_series-requires
short_series-requires c = omega (arith, c.requires)

pub overflow_add-result : goal.overflow_add-result
overflow_add-result c = omega (arith, c.short_series.ensures, series_small c.before.before.before, c.requires)

pub returns : goal.returns
returns c = ap (λ (x : ℕ). (e c.before.before.before + x) / 2 ^ 11) c.short_series.ensures
