-- How far two whole numbers are apart. Definitions only.
use Rattle.std.specs.Prelude.{ℕ, ◌+◌, ◌≤◌}

-- g is at most e from n, to either side
pub record Within (g n e : ℕ) : Type 0 where
  pub not-above : g ≤ n + e
  pub not-below : n ≤ g + e
