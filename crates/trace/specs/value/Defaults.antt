-- What flag 1 means in a trace, by its edition. Definitions only, and the statement that the names are right.
use Rattle.std.specs.Prelude.{ℕ, ◌≡◌, cond, eqb, Float}
use Rattle.std.specs.Float.{binary64}
use Rattle.std.specs.Float.Ieee.{of_bits}
use Rattle.double.specs.Numbers.{dec, #½}
use Rattle.cone.specs.declared.Settings.{Settings}
use Rattle.cone.specs.Fresh.{house_settings}
use Rattle.trace_layout.specs.Traces.{newest_edition}

-- An edition keeps its numbers, whatever the house defaults become: they are written here once, and the house's elsewhere
abbrev pub #first_step : Float
#first_step = of_bits binary64 0x3fe9_9999_9999_999a

abbrev pub #default_smallest : Float
#default_smallest = of_bits binary64 0x3f1a_36e2_eb1c_432d

-- 02, Order 8: "A trace of edition 1 means 0.8 by its flag; new traces are edition 2 and mean 0.5"; Order 9: edition 3 with "the default
-- 0.5"
unfoldable pub default_step : ℕ → Float
default_step edition = cond (eqb edition 1) #first_step #½

-- 02: "a u32 flag (1 means default settings; ..)", of which the start is no part
abbrev pub default_of : ℕ → Float → Settings
default_of edition start = record { start = start; step = default_step edition; smallest = #default_smallest }

-- a step told outright, and the smallest step of every edition
abbrev pub told_step : Float → Float → Settings
told_step step start = record { start = start; step = step; smallest = dec 1 4 }

pub record DefaultsRight : Type 0 where
  pub first : (start : Float) → default_of 1 start ≡ told_step (dec 8 1) start
  pub second : (start : Float) → default_of 2 start ≡ told_step (dec 5 1) start
  pub third : (start : Float) → default_of 3 start ≡ told_step (dec 5 1) start
  -- in a new trace flag 1 means what callers get who pass no settings
  pub newest : (start : Float) → default_of newest_edition start ≡ house_settings start
