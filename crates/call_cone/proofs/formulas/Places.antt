-- The rectified numbers are as many as the given ones. Assumes nothing.
use mathlib.Core.Path.{◌≡◌}
use mathlib.Core.List.{List}
use lib.Ieee.{Float}
use lib.ListN.{length, length-map}
use Rattle.call_cone.specs.formulas.Equilibration.{rectified_of}

pub same_count : (e : List Float) → length (rectified_of e) ≡ length e
unfolding rectified_of
same_count e = simp length-map
