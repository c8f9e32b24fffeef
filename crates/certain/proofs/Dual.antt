-- The dual cone: a residue beyond its margin tells the sign of z2 - z1 - z1·L(-z3/z1). Assumes nothing.
-- In units: z1 = -b, z2 = ±c, z3 = a. As in Primal, with z2 - z1 in the place of -s1.
use mathlib.Core.Bool.{Bool, true, false}
use Prim.Native.Nat.{ℕ, ◌+◌, ◌*◌, ◌^◌, ◌<◌}
use native.Mathlib.Nat.{mul-pos, mul-lt-mul_of_pos_right}
use native.Mathlib.Omega.{arith}
use lib.Dec.{T}
use lib.Pow.{pow_pos}
use lib.Ieee.{Float, binary64, neg}
use lib.Ieee.Fits.{div-fits}
use Rattle.double.specs.Operators.{◌⊘◌, ◌≺◌}
use Rattle.double.specs.Numbers.{#0}
use Rattle.double.specs.Sizes.{abs_of}
use Rattle.series.specs.Series.{Signed, Same, lOf}
use Rattle.series.proofs.SignedFractions.{over_pos_of}
use Rattle.series.specs.change.SignedArithmetic.{times, minus, AboveZero, BelowZero}
use Rattle.series.proofs.change.SignedArithmetic.{same_times, same_minus, above_moves, below_moves}
use Rattle.rounding.specs.errors.Errors.{above, below}
use Rattle.rounding.proofs.errors.Divided.{div_near}
use Rattle.rounding.proofs.errors.Added.{neg_units}
use Rattle.expcone.specs.feasible.Dual as dualTest
use Rattle.certain.specs.Coordinates.{Point}
use Rattle.certain.specs.Dual as dual
use Rattle.certain.proofs.Logarithms.{LogNear}
use Rattle.certain.proofs.Margins.{Weighed, abs_units, weigh_dual}
use Rattle.certain.proofs.Residues.{ResidueNear, dual_near}
use Rattle.certain.proofs.ExactCoordinates.{in_units, units_exact, exact_over, quotient_exact, quotient-over}
use Rattle.certain.proofs.Coordinates.{Coordinate, coordinate, Nonzero, positive, negative, Sides, sides, large, quotient-most}
use Rattle.certain.proofs.Coordinates.{quotient-least, Logged, logged}
use Rattle.certain.proofs.Decided.{above_decided, below_decided}

-- U² more on both sides. P and M are L's plus and less, z2 is zp - zm, and -z1 is b.
in_units-above :
    (b P M O U zp zm : ℕ) → 0 < U * U → b * M + (zm + 0) * O < b * P + (zp + b) * O
    → (zm * U + 0 * U) * (U * O) + (0 * P + b * M) * (U * U) < (zp * U + b * U) * (U * O) + (0 * M + b * P) * (U * U)
in_units-above b P M O U zp zm pU h = go b P M O U zp zm (mul-lt-mul_of_pos_right h pU)
  where
    go :
        (b P M O U zp zm : ℕ) → (b * M + (zm + 0) * O) * (U * U) < (b * P + (zp + b) * O) * (U * U)
        → (zm * U + 0 * U) * (U * O) + (0 * P + b * M) * (U * U) < (zp * U + b * U) * (U * O) + (0 * M + b * P) * (U * U)
    go b P M O U zp zm h = omega arith

in_units-below :
    (b P M O U zp zm : ℕ) → 0 < U * U → b * P + (zp + b) * O < b * M + (zm + 0) * O
    → (zp * U + b * U) * (U * O) + (0 * M + b * P) * (U * U) < (zm * U + 0 * U) * (U * O) + (0 * P + b * M) * (U * U)
in_units-below b P M O U zp zm pU h = go b P M O U zp zm (mul-lt-mul_of_pos_right h pU)
  where
    go :
        (b P M O U zp zm : ℕ) → (b * P + (zp + b) * O) * (U * U) < (b * M + (zm + 0) * O) * (U * U)
        → (zp * U + b * U) * (U * O) + (0 * M + b * P) * (U * U) < (zm * U + 0 * U) * (U * O) + (0 * P + b * M) * (U * U)
    go b P M O U zp zm h = omega arith

module _ (z1 z2 z3 : Float) (p : Point z1 z2 z3) (t3 : T (#0 ≺ z3)) (t1 : T (z1 ≺ #0)) where
  c1 : Nonzero true z1
  c1 = negative z1 p.first_double p.first t1

  c2 : Coordinate z2
  c2 = coordinate z2 p.second_double p.second

  c3 : Nonzero false z3
  c3 = positive z3 p.third_double p.third t3

  abbrev a : ℕ
  a = c3.units

  abbrev b : ℕ
  b = c1.units

  abbrev c : ℕ
  c = c2.units

  abbrev σ : Bool
  σ = c2.sign

  d : Sides a b
  d = sides c3 c1

  abbrev l : Float
  l = dualTest.log z1 z3

  log : Logged l a b
  log =
      logged (neg z3 ⊘ z1) d (div-fits binary64 (neg z3) z1)
      (div_near binary64 (neg z3) z1 true true a b d.b-pos (neg_units binary64 z3 false a c3.is) c1.is (quotient-most d)
      (quotient-least d))

  abbrev n : LogNear l (lOf a b)
  n = log.near

  abbrev res : Float
  res = dualTest.residue z1 z2 l

  residue : ResidueNear res b n.units c (above n.sign n.units) (below n.sign n.units) (above σ c + b) (below σ c + 0)
  residue = dual_near z1 l z2 b n.units c n.sign σ n.is c2.is (large d) c1.most log.size c2.most c1.is

  abbrev margin : Float
  margin = dualTest.margin z1 z2 l

  weighed : Weighed margin b n.units c
  weighed =
      weigh_dual (abs_of z1) (abs_of l) (abs_of z2) b n.units c (abs_units z1 true b c1.is) (abs_units l n.sign n.units n.is)
      (abs_units z2 σ c c2.is) (large d) c1.most
      log.size
      c2.most

  -- the exact number, by units and by the coordinates
  abbrev L : Signed
  L = lOf a b

  abbrev number : Signed
  number = minus (minus (in_units σ c) (in_units true b)) (times (in_units true b) L)

  same : Same number (dual.number z1 z2 z3)
  unfolding dual.number
  same =
      same_minus (mul-pos (exact_over z2) (exact_over z1)) (mul-pos (pow_pos 1074) (over_pos_of a b d.b-pos))
      (same_minus (exact_over z2) (pow_pos 1074) (units_exact z2 σ c c2.is) (units_exact z1 true b c1.is))
      (same_times (exact_over z1) (over_pos_of a b d.b-pos) (units_exact z1 true b c1.is)
      (quotient_exact z3 z1 false true a b d.a_pos d.b-pos c3.is c1.is))

  over_exact : 0 < (dual.number z1 z2 z3).over
  unfolding dual.number
  over_exact = mul-pos (mul-pos (exact_over z2) (exact_over z1)) (mul-pos (exact_over z1) (quotient-over z3 z1 true b d.b-pos c1.is))

  square : 0 < 2 ^ 1074 * 2 ^ 1074
  square = mul-pos (pow_pos 1074) (pow_pos 1074)

  number-above : T (margin ≺ res) → AboveZero (dual.number z1 z2 z3)
  number-above t =
      above_moves over_exact same
      (in_units-above b L.plus L.less L.over (2 ^ 1074) (above σ c) (below σ c) square
      (above_decided l res margin L n b c (above σ c + b) (below σ c + 0) (over_pos_of a b d.b-pos) residue weighed t))

  pub inside : T (margin ≺ res) → dual.Inside z1 z2 z3
  inside t = record {
    first_below = below_moves (exact_over z1) (units_exact z1 true b c1.is) d.b-pos;
    third-above = above_moves (exact_over z3) (units_exact z3 false a c3.is) d.a_pos;
    number-above = number-above t;
  }

  pub below_wall : T (res ≺ neg margin) → BelowZero (dual.number z1 z2 z3)
  below_wall t =
      below_moves over_exact same
      (in_units-below b L.plus L.less L.over (2 ^ 1074) (above σ c) (below σ c) square
      (below_decided l res margin L n b c (above σ c + b) (below σ c + 0) (over_pos_of a b d.b-pos) residue weighed t))
