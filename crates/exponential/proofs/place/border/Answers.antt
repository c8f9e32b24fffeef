-- `border` meets its contract: the borders of all places fit 64 bits. Assumes nothing.
use Rattle.std.proofs.Common.{ℕ, ◌+◌, ◌*◌, ◌/◌, ◌^◌, ◌<◌, ◌≤◌, refl, arith}
use Rattle.exponential.specs.Steps.{third_in53, fraction, border}
use Rattle.exponential.proofs.Borders.{border_fits}
use Rattle.exponential.proofs.place.border.Goals as goal

one_less_fits : (k : ℕ) → k ≤ 2047 → k * third_in53 + fraction k / 2 ^ 40 < 2 ^ 64
unfolding border
one_less_fits k h = go (k * third_in53 + fraction k / 2 ^ 40) (border_fits k h)
  where
    go : (b : ℕ) → b + 1 < 2 ^ 64 → b < 2 ^ 64
    go b e = omega arith

pub overflow_add-result-2 : goal.overflow_add-result-2
overflow_add-result-2 c = record { fits = one_less_fits c.args.k c.requires }

pub overflow_add-result-3 : goal.overflow_add-result-3
unfolding border
overflow_add-result-3 c = record { fits = border_fits c.args.k c.requires }

pub returns : goal.returns
unfolding border
returns c = refl
