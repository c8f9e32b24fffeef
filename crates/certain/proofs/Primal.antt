-- The cone itself: a residue beyond its margin tells the sign of s2·L(s3/s2) - s1. Assumes nothing.
-- In units: s1 = ±c, s2 = b, s3 = a. The logarithm of the rounded quotient is near L(a/b), the residue near b·l - s1, the margin heavy
-- enough for both.
use mathlib.Core.Bool.{Bool, true, false, not}
use Prim.Native.Nat.{ℕ, ◌+◌, ◌*◌, ◌^◌, ◌<◌}
use native.Mathlib.Nat.{mul-pos, mul-lt-mul_of_pos_right}
use native.Mathlib.Omega.{arith}
use lib.Dec.{T}
use lib.Pow.{pow_pos}
use lib.Ieee.{Float, binary64, neg}
use lib.Ieee.Fits.{div-fits}
use Rattle.double.specs.Operators.{◌⊘◌, ◌≺◌}
use Rattle.double.specs.Numbers.{#0}
use Rattle.double.specs.Sizes.{abs_of}
use Rattle.series.specs.Series.{Signed, Same, lOf}
use Rattle.series.proofs.SignedFractions.{over_pos_of}
use Rattle.series.specs.change.SignedArithmetic.{times, minus, AboveZero, BelowZero}
use Rattle.series.proofs.change.SignedArithmetic.{same_times, same_minus, above_moves, below_moves}
use Rattle.rounding.specs.errors.Errors.{above, below}
use Rattle.rounding.proofs.errors.Divided.{div_near}
use Rattle.expcone.specs.feasible.Primal as primalTest
use Rattle.certain.specs.Coordinates.{Point}
use Rattle.certain.specs.Primal as primal
use Rattle.certain.proofs.Logarithms.{LogNear}
use Rattle.certain.proofs.Margins.{Weighed, abs_units, weigh}
use Rattle.certain.proofs.Residues.{ResidueNear, primal_near}
use Rattle.certain.proofs.ExactCoordinates.{in_units, units_exact, exact_over, quotient_exact, quotient-over}
use Rattle.certain.proofs.Coordinates.{Coordinate, coordinate, Nonzero, positive, Sides, sides, large, quotient-most, quotient-least}
use Rattle.certain.proofs.Coordinates.{Logged, logged}
use Rattle.certain.proofs.Decided.{above_decided, below_decided}

-- U more on both sides. P and M are L's plus and less, or the other way round.
in_units_lem :
    (b P M O U xp xm : ℕ) → 0 < U → b * M + xm * O < b * P + xp * O
    → (b * M + 0 * P) * U + xm * (U * O) < (b * P + 0 * M) * U + xp * (U * O)
in_units_lem b P M O U xp xm pU h = go b P M O U xp xm (mul-lt-mul_of_pos_right h pU)
  where
    go :
        (b P M O U xp xm : ℕ) → (b * M + xm * O) * U < (b * P + xp * O) * U
        → (b * M + 0 * P) * U + xm * (U * O) < (b * P + 0 * M) * U + xp * (U * O)
    go b P M O U xp xm h = omega arith

-- what is above in -s1 is below in s1
turned_above :
    (s : Bool) (c b P M O : ℕ) → b * M + below (not s) c * O < b * P + above (not s) c * O → b * M + above s c * O < b * P + below s c * O
turned_above true c b P M O h = h
turned_above false c b P M O h = h

turned_below :
    (s : Bool) (c b P M O : ℕ) → b * P + above (not s) c * O < b * M + below (not s) c * O → b * P + below s c * O < b * M + above s c * O
turned_below true c b P M O h = h
turned_below false c b P M O h = h

module _ (s1 s2 s3 : Float) (p : Point s1 s2 s3) (t3 : T (#0 ≺ s3)) (t2 : T (#0 ≺ s2)) where
  c1 : Coordinate s1
  c1 = coordinate s1 p.first_double p.first

  c2 : Nonzero false s2
  c2 = positive s2 p.second_double p.second t2

  c3 : Nonzero false s3
  c3 = positive s3 p.third_double p.third t3

  abbrev a : ℕ
  a = c3.units

  abbrev b : ℕ
  b = c2.units

  abbrev c : ℕ
  c = c1.units

  abbrev σ : Bool
  σ = c1.sign

  d : Sides a b
  d = sides c3 c2

  abbrev l : Float
  l = primalTest.log s2 s3

  log : Logged l a b
  log =
      logged (s3 ⊘ s2) d (div-fits binary64 s3 s2)
      (div_near binary64 s3 s2 false false a b d.b-pos c3.is c2.is (quotient-most d) (quotient-least d))

  abbrev n : LogNear l (lOf a b)
  n = log.near

  abbrev res : Float
  res = primalTest.residue s1 s2 l

  residue : ResidueNear res b n.units c (above n.sign n.units) (below n.sign n.units) (above (not σ) c) (below (not σ) c)
  residue = primal_near s2 l s1 b n.units c n.sign σ n.is c1.is (large d) c2.most log.size c1.most c2.is

  abbrev margin : Float
  margin = primalTest.margin s1 s2 l

  weighed : Weighed margin b n.units c
  weighed =
      weigh s2 (abs_of l) (abs_of s1) b n.units c c2.is (abs_units l n.sign n.units n.is) (abs_units s1 σ c c1.is) (large d)
      c2.most log.size c1.most

  -- the exact number, by units and by the coordinates
  abbrev number : Signed
  number = minus (times (in_units false b) (lOf a b)) (in_units σ c)

  same : Same number (primal.number s1 s2 s3)
  unfolding primal.number
  same =
      same_minus (mul-pos (exact_over s2) (quotient-over s3 s2 false b d.b-pos c2.is)) (pow_pos 1074)
      (same_times (exact_over s2) (over_pos_of a b d.b-pos) (units_exact s2 false b c2.is)
      (quotient_exact s3 s2 false false a b d.a_pos d.b-pos c3.is c2.is))
      (units_exact s1 σ c c1.is)

  over_exact : 0 < (primal.number s1 s2 s3).over
  unfolding primal.number
  over_exact = mul-pos (mul-pos (exact_over s2) (quotient-over s3 s2 false b d.b-pos c2.is)) (exact_over s1)

  abbrev L : Signed
  L = lOf a b

  number-above : T (margin ≺ res) → AboveZero (primal.number s1 s2 s3)
  number-above t =
      above_moves over_exact same
      (in_units_lem b L.plus L.less L.over (2 ^ 1074) (below σ c) (above σ c) (pow_pos 1074)
      (turned_above σ c b L.plus L.less L.over
      (above_decided l res margin L n b c (above (not σ) c) (below (not σ) c) (over_pos_of a b d.b-pos) residue weighed t)))

  pub inside : T (margin ≺ res) → primal.Inside s1 s2 s3
  inside t = record {
    second_above = above_moves (exact_over s2) (units_exact s2 false b c2.is) d.b-pos;
    third-above = above_moves (exact_over s3) (units_exact s3 false a c3.is) d.a_pos;
    number-above = number-above t;
  }

  pub below_wall : T (res ≺ neg margin) → BelowZero (primal.number s1 s2 s3)
  below_wall t =
      below_moves over_exact same
      (in_units_lem b L.less L.plus L.over (2 ^ 1074) (above σ c) (below σ c) (pow_pos 1074)
      (turned_below σ c b L.plus L.less L.over
      (below_decided l res margin L n b c (above (not σ) c) (below (not σ) c) (over_pos_of a b d.b-pos) residue weighed t)))
