-- Demand 3's premises: "For an accepted cone, slices of its length, finite points and directions, a finite start above zero, a normal
-- smallest step above zero, and a shrink factor above 0 and at most 0.99". Definitions only.
use Rattle.std.specs.Prelude.{ℕ, ◌≤◌, ◌<◌, ◌≡◌, true, List, Float, length}
use Rattle.std.specs.Float.Ieee.Scale.{finite}
use Rattle.double.specs.Operators.{◌≺◌, ◌≼◌}
use Rattle.double.specs.Numbers.{dec, #0}
use Rattle.cone.specs.declared.Cone.{Cone}
use Rattle.cone.specs.declared.Settings.{Settings}
use Rattle.judges.specs.Judges.{cone_ok, all_finite}
use Rattle.search.specs.trials.Trials.{exponent_of}
use Rattle.search.specs.plan.EachCone.{cone_at}

-- "an accepted cone": number 1 does not refuse it
abbrev pub Accepted : Cone → Type 0
Accepted c = cone_ok c ≡ true

-- the same of Order 10's "list of 1 to 1,024 cones"
pub record AcceptedPlan (cs : List Cone) : Type 0 where
  pub some : 1 ≤ length cs
  pub few : length cs ≤ 1024
  pub each : (i : ℕ) → i < length cs → Accepted (cone_at cs i)

-- One side of a search over n numbers: the direction, the point where it begins, and the slice that is lent for the tested point. What that
-- slice holds is not asked
pub record Side (n : ℕ) (dq q point : List Float) : Type 0 where
  -- "slices of its length"
  pub direction_length : length dq ≡ n
  pub start-length : length q ≡ n
  pub point-length : length point ≡ n
  -- "finite points and directions"
  pub direction_finite : all_finite dq ≡ true
  pub start_finite : all_finite q ≡ true

-- 01: "Doubles are classed by exponent field: 0, 1 to 2046, or 2047". Normal numbers are the second class
pub record Normal (x : Float) : Type 0 where
  pub above_subnormal : 1 ≤ exponent_of x
  pub below_infinite : exponent_of x ≤ 2046

pub record Asked (s : Settings) : Type 0 where
  -- "a finite start above zero"
  pub start_finite : finite s.start ≡ true
  pub start_above_zero : (#0 ≺ s.start) ≡ true
  -- "a normal smallest step above zero"
  pub smallest_normal : Normal s.smallest
  pub smallest_above_zero : (#0 ≺ s.smallest) ≡ true
  -- "a shrink factor above 0 and at most 0.99"
  pub factor_above_zero : (#0 ≺ s.step) ≡ true
  pub factor_at_most : (s.step ≼ dec 99 2) ≡ true
