-- The power x^y of two doubles. Definitions only.
use Rattle.std.specs.Prelude.{cond, Float}
use Rattle.std.specs.Float.{nan}
use Rattle.std.specs.Float.Ieee.{eq, ne}
use Rattle.double.specs.Operators.{◌⊗◌, ◌≺◌}
use Rattle.double.specs.Numbers.{#0, #1, #2}
use Rattle.logarithm.specs.Steps.{log_of}
use Rattle.exponential.specs.Steps.{exp_of}

-- 01: "powf(x,y): y 0 gives 1; y 1 gives x; y 2 gives x·x (a NaN among these has the bits above); else NaN for x NaN or below 0; else
-- exp(y·log x)". y is compared as numbers are, so that -0 is 0. x = -0 is not below 0. There is one NaN here, so its bits are no part of
-- this; src/lib.rt says how it gets them.
-- l is log x, so that a caller who has taken it already hands it over.
unfoldable pub power_at : Float → Float → Float → Float
unfolding eq ne exp_of
power_at x y l =
    cond (eq y #0) #1
    (cond (eq y #1) x
    (cond (eq y #2) (x ⊗ x)
    (cond (ne x x) nan
    (cond (x ≺ #0) nan
    (exp_of (y ⊗ l))))))

unfoldable pub powf_of : Float → Float → Float
unfolding log_of
powf_of x y = power_at x y (log_of x)
