-- Steps and their places, at the borders. Assumes nothing.
use mathlib.Core.Path.{◌≡◌, refl}
use Rattle.trace_sheet.specs.counts.Counts.{place_of}

zero : place_of 0 ≡ 0
unfolding place_of
zero = refl

smallest : place_of 1 ≡ 1
unfolding place_of
smallest = refl

largest_subnormal : place_of 0x000f_ffff_ffff_ffff ≡ 1
unfolding place_of
largest_subnormal = refl

-- 2^-1022, whose field is 1
smallest_normal : place_of 0x0010_0000_0000_0000 ≡ 2
unfolding place_of
smallest_normal = refl

-- 1, whose field is 1023
one : place_of 0x3ff0_0000_0000_0000 ≡ 1024
unfolding place_of
one = refl

largest : place_of 0x7fef_ffff_ffff_ffff ≡ 2047
unfolding place_of
largest = refl
