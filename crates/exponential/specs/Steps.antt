-- What the code of the exponential computes, for every double. Definitions only.
-- Every x is raised by 1024·S(1/3), so that no number is below 0; a place k stands for j = k - 1024.
use Rattle.std.specs.Prelude.{ℕ, zero, suc, ◌+◌, ◌-◌, ◌*◌, ◌/◌, ◌%◌, ◌^◌, ◌<◌, ◌≤◌, Bool, true, false, cond, nat_le, Float}
use Rattle.std.specs.Float.{nan, inf, binary64}
use Rattle.std.specs.Float.Ieee.{of_bits, to_bits, neg, ne}
use Rattle.double.specs.Operators.{◌≺◌}
use Rattle.double.specs.Numbers.{#0, #708, #709}
use Rattle.double.specs.Fields.{sign_of, field_of, digits_of, mag}
use Rattle.exponential.specs.Sum.{factorial}
use Rattle.exponential.specs.declared.place.Point.{Point}

-- ---- the places

-- S(1/3) in units of 2^-53, rounded down, and the next 40 binary digits of it
abbrev pub third_in53 : ℕ
third_in53 = 6243314768165359

abbrev pub third_rest : ℕ
third_rest = 229667272307

-- 1024·S(1/3) in units of 2^-53, rounded up: where 0 is raised to
abbrev pub home : ℕ
home = 6393154322601327830

-- what home is over 1024·S(1/3), in units of 2^-93, rounded up
abbrev pub home_rest : ℕ
home_rest = 116201501695

-- What (k - 1024)·S(1/3), raised, has over k times third_in53, in units of 2^-93. That it is near enough at every k is computed:
-- proofs/Borders.
abbrev pub fraction : ℕ → ℕ
fraction k = k * third_rest + home_rest

-- the first whole number of units of 2^-53 that belongs to the place k: (k - 1024)·S(1/3), raised, rounded up
unfoldable pub border : ℕ → ℕ
border k = k * third_in53 + fraction k / 2 ^ 40 + 1

-- how far the border of k lies over (k - 1024)·S(1/3), in units of 2^-64, rounded down
unfoldable pub gap : ℕ → ℕ
gap k = 2047 - fraction k / 2 ^ 29 % 2048

-- The place of y: the k with border k ≤ y < border (k + 1). The quotient by a little more than S(1/3) is that k or the one below.
unfoldable pub place_of : ℕ → ℕ
unfolding border
place_of y = let k = y / (third_in53 + 1) in cond (nat_le (border (k + 1)) y) (k + 1) k

-- x raised, in units of 2^-64, rounded down; x is a / b, negative where s is true
unfoldable pub raised : Bool → ℕ → ℕ → ℕ
raised false a b = home * 2048 + a * 2 ^ 64 / b
raised true a b = home * 2048 - (a * 2 ^ 64 + (b - 1)) / b

-- w by its whole units of 2^-53 and the parts of 2048 over them: 2^64·709 does not fit 64 bits
unfoldable pub point_of : ℕ → Point
point_of w = record { whole = w / 2048; part = w % 2048 }

-- the fields of a normal number from -708 to 709
pub record NormalFields (s : Bool) (f t : ℕ) : Type 0 where
  pub first : 1 ≤ f
  pub digits : t < 2 ^ 52
  pub most : mag f t ≤ cond s 708 709 * 2 ^ 1074

-- whole units of 2^-53 to which an x from -708 to 709 is raised
pub record InRange (y : ℕ) : Type 0 where
  pub from : home ≤ y + 708 * 2 ^ 53
  pub to : y ≤ home + 709 * 2 ^ 53

-- k is the place of y, and there is a double at it
pub record AtPlace (y k : ℕ) : Type 0 where
  pub from : border k ≤ y
  pub below : y < border (k + 1)
  pub low : 2 ≤ k
  pub high : k ≤ 2046

-- 2^64·r: what w has over its place
unfoldable pub rest : ℕ → ℕ → ℕ
unfolding border gap
rest w k = w + gap k - border k * 2048

-- S(1/3) in units of 2^-64, rounded down: no rest is larger
abbrev pub third_in64 : ℕ
third_in64 = 12786308645202655659

-- ---- the sum

-- 2^62/i!, rounded down; 0 from i = 21 on
unfoldable pub coefficient : ℕ → ℕ
unfolding factorial
coefficient i = 2 ^ 62 / factorial i

-- The sum by Horner's rule, in units of 2^-62, at r units of 2^-64: the terms from i = 39 - d on, over r^(39 - d).
unfoldable pub horner : ℕ → ℕ → ℕ
unfolding coefficient
horner r zero = 0
horner r (suc d) = coefficient (38 - d) + r * horner r d / 2 ^ 64

-- ---- the answer

-- A place k and a sum v become a double: v is rounded to 53 digits, whose leading one counts as one more in the field.
unfoldable pub composed : ℕ → ℕ → Float
unfolding of_bits
composed k v = of_bits binary64 ((k - 2) * 2 ^ 52 + (v + 512) / 1024)

unfoldable pub exp_at : ℕ → Float
unfolding place_of rest horner composed
exp_at w = let k = place_of (w / 2048) in composed k (horner (rest w k) 39)

-- 01, exp: "above 709 gives +infinity, below -708 gives +0, NaN gives NaN, exp 0 is 1". Between, the steps above.
unfoldable pub exp_of : Float → Float
unfolding ne to_bits raised mag exp_at
exp_of x =
    let b = to_bits binary64 x in
    cond (ne x x) nan
    (cond (#709 ≺ x) (inf false) (cond (x ≺ neg #708) #0 (exp_at (raised (sign_of b) (mag (field_of b) (digits_of b)) (2 ^ 1074)))))
