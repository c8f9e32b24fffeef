-- What is claimed of `estimated`, and no more: so much that the code can check the rest. Definitions only.
use Rattle.std.specs.Prelude.{ℕ, ◌+◌, ◌-◌, ◌*◌, ◌^◌, ◌<◌, ◌≤◌}
use Rattle.logarithm.specs.Steps.{short_series_of}

-- q is so near to d·2^60 / n that the lower half of q·n tells what is left; and c so near to the small terms, at q and at one less, that 8
-- units of 2^-64 hold its error
pub record Near (d n q c : ℕ) : Type 0 where
  pub q_small : q < 2 ^ 52
  pub q-above : q * n ≤ d * 2 ^ 60 + 2 ^ 56
  pub q-below : d * 2 ^ 60 ≤ q * n + 2 ^ 56
  pub c_small : c < 2 ^ 52
  pub c_above : (e : ℕ) → e ≤ q → q ≤ e + 1 → 2 * (16 * e) + c ≤ short_series_of (16 * e) + 8
  pub c_below : (e : ℕ) → e ≤ q → q ≤ e + 1 → short_series_of (16 * e) ≤ 2 * (16 * e) + c + 8

-- an entry, a quotient and the estimate there: their sum fits, and is within 8 units of the specification's
pub record Summands (e t c : ℕ) : Type 0 where
  pub e_small : e ≤ 2 ^ 64 - 2 ^ 61
  pub t_small : t < 2 ^ 51
  pub c_small : c < 2 ^ 52
  pub c_above : 2 * (16 * t) + c ≤ short_series_of (16 * t) + 8
  pub c_below : short_series_of (16 * t) ≤ 2 * (16 * t) + c + 8
