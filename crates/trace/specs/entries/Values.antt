-- What holds of every value that a caller can pass: its numbers are of their types. Definitions only.
use Rattle.std.specs.Prelude.{ℕ, ◌^◌, ◌<◌, ◌≡◌, List, T, Float, length, get_or}
use Rattle.std.specs.Float.{binary64, nan}
use Rattle.std.specs.Float.Ieee.{fits}
use Rattle.cone.specs.declared.Cone.{Cone}
use Rattle.cone.specs.declared.Settings.{Settings}
use Rattle.cone.specs.declared.Steps.{Steps}

-- every number of the list is a double, NaN and infinities included
abbrev pub Doubles : List Float → Type 0
Doubles xs = (i : ℕ) → T (fits binary64 (get_or xs i nan))

-- the arguments of `append` beside the lent slice are values of their types
pub record Passed (c : Cone) (flag : ℕ) (settings : Settings) (dz ds z s : List Float) (steps : Steps) : Type 0 where
  pub rule : c.rule < 2 ^ 32
  pub places : length c.exps ≡ 32
  pub exps : Doubles c.exps
  pub start : T (fits binary64 settings.start)
  pub step : T (fits binary64 settings.step)
  pub smallest : T (fits binary64 settings.smallest)
  pub dz_doubles : Doubles dz
  pub ds_doubles : Doubles ds
  pub z_doubles : Doubles z
  pub s_doubles : Doubles s
  pub dualstep : T (fits binary64 steps.dualstep)
  pub primalstep : T (fits binary64 steps.primalstep)
  pub dualcount : steps.dualcount < 2 ^ 32
  pub primalcount : steps.primalcount < 2 ^ 32
