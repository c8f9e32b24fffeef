-- What Order 11 asks of the second root. Definitions only.
use Rattle.std.specs.Prelude.{ℕ, ◌^◌, ◌≤◌, ◌<◌, ◌≡◌, T, Float}
use Rattle.std.specs.Float.{binary64}
use Rattle.std.specs.Float.Ieee.{fits, to_bits, of_bits}
use Rattle.double.specs.Fields.{Units}
use Rattle.double.specs.Numbers.{#1}
use Rattle.root.specs.Steps.{sqrt_of}
use Rattle.root.specs.table_root.Steps.{table_sqrt_of}

pub record SameRoot : Type 0 where
  -- for every double; there is one NaN, and a pattern of any other is read as it
  pub same : (x : Float) → (table_sqrt_of x).root ≡ sqrt_of x
  -- 02, Order 11: "The two agree in every bit on all 2^64 inputs." b runs over the patterns.
  pub every_bit :
      (b : ℕ) → b < 2 ^ 64
      → to_bits binary64 (table_sqrt_of (of_bits binary64 b)).root ≡ to_bits binary64 (sqrt_of (of_bits binary64 b))
  -- 02, Order 11: "State how many correction steps it takes at most"
  pub most : (x : Float) → (table_sqrt_of x).steps ≤ 5
  -- so that no smaller number would do
  pub reached : (table_sqrt_of #1).steps ≡ 5
  -- a positive number takes four at least, n being its size in units of the smallest
  pub least : (x : Float) (n : ℕ) → T (fits binary64 x) → Units x n → 0 < n → 4 ≤ (table_sqrt_of x).steps
