-- Settings that the numbers 3 and 4 do not refuse are usable: a number above 0 that is finite is positive. Assumes nothing.
use mathlib.Core.Path.{◌≡◌, sym, subst}
use mathlib.Core.Bool.{Bool, true, false, ◌&&◌}
use Prim.Native.Nat.{ℕ, ◌*◌, ◌<◌}
use native.Mathlib.Omega.{arith}
use lib.Dec.{T, ltb→lt, lt→ltb}
use lib.Ieee.{Float, nan, inf, fin, binary64, of_bits, lt, fits, up, down}
use lib.Ieee.Scale.{finite}
use lib.Ieee.Positive.{positive, above, above_of_le, first_pos}
use Rattle.arith.proofs.Branches.{and_left, and_right}
use Rattle.double.specs.Operators.{◌≺◌, ◌≼◌}
use Rattle.double.specs.Numbers.{#0, #largest_step, #smallest_normal}
use Rattle.cone.specs.declared.Settings.{Settings}
use Rattle.judges.specs.Judges.{settings_finite, settings_ok}
use Rattle.search.specs.trials.Trials.{Usable}

pub of_true : (b : Bool) → b ≡ true → T b
of_true b e = subst T (sym e) tt

above_zero : (x : Float) → T (finite x) → T (#0 ≺ x) → T (positive x)
unfolding lt of_bits
above_zero nan f t = absurd f
above_zero (inf s) f t = absurd f
above_zero (fin true m e) f t = absurd t
above_zero (fin false m e) f t = lt→ltb 0 m (first_pos m (up e) (go (down e) (m * up e) (ltb→lt (0 * 1 * down e) (m * up e * 1) t)))
  where
    go : (d n : ℕ) → 0 * 1 * d < n * 1 → 0 < n
    go d n h = omega arith

above_finite : (x : Float) → T (finite x) → T (above x) → T (positive x)
above_finite nan f t = absurd f
above_finite (inf s) f t = absurd f
above_finite (fin true m e) f t = absurd t
above_finite (fin false m e) f t = t

from_normal : (x : Float) → T (finite x) → T (#smallest_normal ≼ x) → T (positive x)
unfolding of_bits
from_normal x f t = above_finite x f (above_of_le #smallest_normal x tt t)

pub usable_of : (how : Settings) → T (fits binary64 how.start) → T (fits binary64 how.smallest) → settings_finite how ≡ true
    → settings_ok how ≡ true → Usable how
usable_of how fa fm f r =
    let a = how.start in
    let s = how.step in
    let m = how.smallest in
    let f₂ = and_left (finite a && finite s) (finite m) f in
    let finite_start = of_true (finite a) (and_left (finite a) (finite s) f₂) in
    let finite_step = of_true (finite s) (and_right (finite a) (finite s) f₂) in
    let finite_smallest = of_true (finite m) (and_right (finite a && finite s) (finite m) f) in
    let r₃ = and_left (#0 ≺ a && #0 ≺ s && s ≼ #largest_step) (#smallest_normal ≼ m) r in
    let r₂ = and_left (#0 ≺ a && #0 ≺ s) (s ≼ #largest_step) r₃ in
    let normal = of_true (#smallest_normal ≼ m) (and_right (#0 ≺ a && #0 ≺ s && s ≼ #largest_step) (#smallest_normal ≼ m) r) in
    record {
      start_double = fa;
      start_positive = above_zero a finite_start (of_true (#0 ≺ a) (and_left (#0 ≺ a) (#0 ≺ s) r₂));
      step_positive = above_zero s finite_step (of_true (#0 ≺ s) (and_right (#0 ≺ a) (#0 ≺ s) r₂));
      step_most = of_true (s ≼ #largest_step) (and_right (#0 ≺ a && #0 ≺ s) (s ≼ #largest_step) r₃);
      smallest_double = fm;
      smallest_positive = from_normal m finite_smallest normal;
      smallest_normal = normal;
    }
