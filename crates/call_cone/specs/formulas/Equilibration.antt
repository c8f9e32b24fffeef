-- The equilibration, which is the same for all kinds. Definitions only.
use Rattle.std.specs.Prelude.{List, map, Float}
use Rattle.double.specs.Operators.{◌⊗◌, ◌⊘◌}
use Rattle.double.specs.Numbers.{#1}
use Rattle.algebra.specs.Vectors.{mean_of}

-- 000, 001, 002 rectify_equilibration: δ.copy_from(e).recip().scale(e.mean())
abbrev pub rectified_at : Float → Float → Float
rectified_at mean x = #1 ⊘ x ⊗ mean

unfoldable pub rectified_of : List Float → List Float
rectified_of e = map (rectified_at (mean_of e)) e
