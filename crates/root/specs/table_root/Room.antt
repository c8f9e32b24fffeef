-- What the first root and the steps need of their arguments, so that no number leaves 64 bits. Definitions only.
use Rattle.std.specs.Prelude.{ℕ, ◌+◌, ◌*◌, ◌/◌, ◌^◌, ◌≤◌, ◌<◌}
use Rattle.root.specs.declared.table_root.Guess.{Guess}
use Rattle.root.specs.table_root.Steps.{addition}

pub record Started (m v : ℕ) : Type 0 where
  pub number : m < 2 ^ 54
  pub reciprocal : v ≤ 2 ^ 31
  pub square : m / 2 ^ 28 * v / 2 ^ 25 * (m / 2 ^ 28 * v / 2 ^ 25) ≤ m * 2 ^ 8

pub record StepFits (v scale unit : ℕ) (g : Guess) : Type 0 where
  pub product : g.rest / 2 ^ 18 * v < 2 ^ 64
  pub some : 0 < unit
  pub scaled : scale ≤ 256
  pub root : 2 * (g.root * scale) + addition v unit g < 2 ^ 64
  pub rest : g.rest * (scale * scale) < 2 ^ 64
  pub under : addition v unit g * (2 * (g.root * scale) + addition v unit g) ≤ g.rest * (scale * scale)
