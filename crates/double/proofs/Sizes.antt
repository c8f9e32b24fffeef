-- The size of a double is the double with its sign cleared. Assumes nothing.
use mathlib.Core.Path.{◌≡◌, refl}
use mathlib.Core.Bool.{false}
use lib.Ieee.{Float, nan, inf, fin}
use Rattle.std.specs.Float.{float_with_sign}
use Rattle.double.specs.Sizes.{abs_of}

pub without_sign : (x : Float) → float_with_sign false x ≡ abs_of x
unfolding float_with_sign abs_of
without_sign nan = refl
without_sign (inf s) = refl
without_sign (fin s m e) = refl
