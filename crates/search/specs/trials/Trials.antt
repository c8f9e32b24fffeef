-- The steps that a search tries, which of them are allowed, and how many there can be. Definitions only.
use Rattle.std.specs.Prelude.{ℕ, zero, suc, ◌+◌, ◌-◌, ◌*◌, ◌≤◌, ◌<◌, ◌≡◌, false, cond, T, Float}
use Rattle.std.specs.Float.{binary64}
use Rattle.std.specs.Float.Ieee.{fits, to_bits}
use Rattle.std.specs.Float.Ieee.Positive.{positive}
use Rattle.double.specs.Operators.{◌⊗◌, ◌≺◌, ◌≼◌}
use Rattle.double.specs.Numbers.{#largest_step, #smallest_normal}
use Rattle.double.specs.Fields.{field_of}
use Rattle.cone.specs.declared.Settings.{Settings}

-- 01: "Trials: the start, then each rounded product with step."
unfoldable pub trial : Settings → ℕ → Float
trial how zero = how.start
trial how (suc k) = trial how k ⊗ how.step

-- 01: "The start is always allowed; a later one is allowed if neither it nor any before it (the start aside) is below the smallest step."
abbrev pub Allowed : Settings → ℕ → Type 0
Allowed how k = (j : ℕ) → 0 < j → j ≤ k → (trial how j ≺ how.smallest) ≡ false

-- The binary exponent E of a normal double, and 1023: its exponent field.
abbrev pub exponent_of : Float → ℕ
exponent_of x = field_of (to_bits binary64 x)

-- How many rounded products with a step of 0.99 or less take a binary exponent for certain: 2 · (0.99 + 2^-53)^69 is at most 1, and with 68
-- it is not.
abbrev pub products_per_exponent : ℕ
products_per_exponent = 69

-- Demand 3, of the tests made: "That number is at most 69 times (start's binary exponent minus smallest's, plus one), or 1 if the start is
-- below the smallest." The loop falls by it. 01: "The empty-handed `loop` of the search gets a falling number from exponents."
abbrev pub bound : Settings → ℕ
bound how = cond (how.start ≺ how.smallest) 1 (products_per_exponent * (exponent_of how.start - exponent_of how.smallest + 1))

-- Settings that the numbers 3 and 4 do not refuse.
-- 01: "search start not above 0; step not above 0 or more than 0.99; smallest step not a positive normal number".
-- `Float` holds the values of every format, so that two of them are said to be doubles.
pub record Usable (how : Settings) : Type 0 where
  pub start_double : T (fits binary64 how.start)
  pub start_positive : T (positive how.start)
  pub step_positive : T (positive how.step)
  pub step_most : T (how.step ≼ #largest_step)
  pub smallest_double : T (fits binary64 how.smallest)
  pub smallest_positive : T (positive how.smallest)
  pub smallest_normal : T (#smallest_normal ≼ how.smallest)
