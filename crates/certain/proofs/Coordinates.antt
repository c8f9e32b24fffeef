-- A moderate coordinate in units, what a sign test says of it, and the logarithm of the quotient of two such. Assumes nothing.
use mathlib.Core.Path.{◌≡◌, refl, sym, ap, ◌∙◌, subst}
use mathlib.Core.Bool.{Bool, true, false}
use Prim.Native.Nat.{ℕ, zero, suc, ◌+◌, ◌*◌, ◌^◌, ◌≤◌, ◌<◌}
use native.Mathlib.Nat.{le_trans, le_of_eq, mul-le-mul_left, mul-le-mul_right, mul-pos, le_of_mul-le-mul_left, le_of_mul-le-mul_right}
use native.Mathlib.Nat.{mul_assoc, mul_comm, zero-mul}
use native.Mathlib.Omega.{arith}
use lib.Dec.{T, leb→le}
use lib.Count.{count_trailing_zeros}
use lib.Pow.{pow_pos}
use lib.Ieee.{Float, binary64, fits, of_bits, of_fields, odd}
use lib.Ieee.Positive.{num, den, den_pos}
use Rattle.double.specs.Numbers.{#0}
use Rattle.double.specs.Operators.{◌≺◌}
use Rattle.double.specs.Fields.{Sized, Units}
use Rattle.double.proofs.Fields.{measured}
use Rattle.series.specs.Series.{lOf}
use Rattle.series.proofs.SignedFractions.{over_pos_of}
use Rattle.logarithm.specs.Steps.{log_of}
use Rattle.series.proofs.change.LSizes.{L-most}
use Rattle.rounding.proofs.errors.Divided.{Divided}
use Rattle.rounding.proofs.errors.Ordered.{lt_units}
use Rattle.certain.specs.Coordinates.{largest, InRange}
use Rattle.certain.proofs.Room.{largest_positive}
use Rattle.certain.proofs.ExactCoordinates.{cross_of_lem, num_pos_of}
use Rattle.certain.proofs.Logarithms.{LogNear, log_of-quotient, log-size}

-- 2^1074 units are 1
pub record Coordinate (x : Float) : Type 0 where
  pub sign : Bool
  pub units : ℕ
  pub is : Sized x sign units
  pub most : units ≤ largest * 2 ^ 1074
  pub least : 0 < units → 2 ^ 1074 ≤ largest * units

most-of : (N D n K U : ℕ) → 0 < D → N * U ≡ n * D → N ≤ K * D → n ≤ K * U
most-of N D n K U pD e h = le_of_mul-le-mul_right {k = D} (go N D n K U e (mul-le-mul_right U h)) pD
  where
    go : (N D n K U : ℕ) → N * U ≡ n * D → N * U ≤ K * D * U → n * D ≤ K * U * D
    go N D n K U e h = omega arith

least-of : (N D n K U : ℕ) → 0 < D → N * U ≡ n * D → D ≤ K * N → U ≤ K * n
least-of N D n K U pD e h = le_of_mul-le-mul_right {k = D} (go N D n K U (ap (λ (t : ℕ). K * t) e) (mul-le-mul_right U h)) pD
  where
    go : (N D n K U : ℕ) → K * (N * U) ≡ K * (n * D) → D * U ≤ K * N * U → U * D ≤ K * n * D
    go N D n K U e h = omega arith

pub coordinate : (x : Float) → T (fits binary64 x) → InRange x → Coordinate x
coordinate x F m =
    let v = (measured x F m.finite_number).is in
    record {
      sign = _;
      units = _;
      is = v;
      most = most-of (num x) (den x) _ largest (2 ^ 1074) (den_pos x) (cross_of_lem x _ _ v) m.most;
      least = λ p. least-of (num x) (den x) _ largest (2 ^ 1074) (den_pos x) (cross_of_lem x _ _ v) (m.least (num_pos_of x _ _ p v));
    }

-- ---- the sign tests

zero-units : Units #0 0
unfolding of_bits of_fields odd count_trailing_zeros
zero-units = (refl, refl)

pub above_zero : (x : Float) (s : Bool) (n : ℕ) → Sized x s n → T (#0 ≺ x) → (s ≡ false) × (0 < n)
above_zero x true n h t = let l = lt_units binary64 #0 x false true 0 n zero-units h t in absurd (none n l)
  where
    none : (n : ℕ) → 0 + n < 0 + 0 → ⊥
    none n l = omega arith
above_zero x false n h t = let l = lt_units binary64 #0 x false false 0 n zero-units h t in (refl, some n l)
  where
    some : (n : ℕ) → 0 + 0 < n + 0 → 0 < n
    some n l = omega arith

pub below-zero : (x : Float) (s : Bool) (n : ℕ) → Sized x s n → T (x ≺ #0) → (s ≡ true) × (0 < n)
below-zero x true n h t = let l = lt_units binary64 x #0 true false n 0 h zero-units t in (refl, some n l)
  where
    some : (n : ℕ) → 0 + 0 < 0 + n → 0 < n
    some n l = omega arith
below-zero x false n h t = let l = lt_units binary64 x #0 false false n 0 h zero-units t in absurd (none n l)
  where
    none : (n : ℕ) → n + 0 < 0 + 0 → ⊥
    none n l = omega arith

-- a coordinate of a known sign
pub record Nonzero (s : Bool) (x : Float) : Type 0 where
  pub units : ℕ
  pub is : Sized x s units
  pub some : 0 < units
  pub most : units ≤ largest * 2 ^ 1074
  pub least : 2 ^ 1074 ≤ largest * units

nonzero : {s : Bool} {x : Float} (c : Coordinate x) → (c.sign ≡ s) × (0 < c.units) → Nonzero s x
nonzero {s} {x} c t = record {
  units = c.units;
  is = subst (λ (r : Bool). Sized x r c.units) t.0 c.is;
  some = t.1;
  most = c.most;
  least = c.least t.1;
}

pub positive : (x : Float) → T (fits binary64 x) → InRange x → T (#0 ≺ x) → Nonzero false x
positive x F r t = let c = coordinate x F r in nonzero c (above_zero x c.sign c.units c.is t)

pub negative : (x : Float) → T (fits binary64 x) → InRange x → T (x ≺ #0) → Nonzero true x
negative x F r t = let c = coordinate x F r in nonzero c (below-zero x c.sign c.units c.is t)

-- ---- a/b, both from 2^-500 to 2^500

pub record Sides (a b : ℕ) : Type 0 where
  pub a_pos : 0 < a
  pub b-pos : 0 < b
  pub a_most : a ≤ largest * 2 ^ 1074
  pub b-most : b ≤ largest * 2 ^ 1074
  pub a_least : 2 ^ 1074 ≤ largest * a
  pub b-least : 2 ^ 1074 ≤ largest * b

pub sides : {s t : Bool} {x y : Float} (c : Nonzero s x) (d : Nonzero t y) → Sides c.units d.units
sides c d =
    record { a_pos = c.some; b-pos = d.some; a_most = c.most; b-most = d.most; a_least = c.least; b-least = d.least }

at_most : (x y K M U : ℕ) → K * K ≤ M → x ≤ K * U → U ≤ K * y → x ≤ M * y
at_most x y K M U r h k = le_trans h (le_trans (mul-le-mul_left K k) (le_trans (le_of_eq (sym (mul_assoc K K y))) (mul-le-mul_right y r)))

module _ {a b : ℕ} (d : Sides a b) where
  -- no small number of units: half units do not weigh beside it
  pub large : 2 ^ 60 ≤ b
  large = le_of_mul-le-mul_left {k = largest} (le_trans (leb→le (largest * 2 ^ 60) (2 ^ 1074) tt) d.b-least) largest_positive

  -- a/b does not overflow, and is in the normal range
  pub quotient-most : a ≤ 2 ^ 1023 * b
  quotient-most = at_most a b largest (2 ^ 1023) (2 ^ 1074) (leb→le _ _ tt) d.a_most d.b-least

  pub quotient-least : 2 ^ 52 * b ≤ a * 2 ^ 1074
  quotient-least =
      go (2 ^ 52) (2 ^ 1000) (2 ^ 1074) (leb→le _ _ tt)
      (at_most b a largest (2 ^ 1000) (2 ^ 1074) (leb→le _ _ tt) d.b-most d.a_least)
    where
      go : (H M U : ℕ) → H * M ≤ U → b ≤ M * a → H * b ≤ a * U
      go H M U r h =
          le_trans (mul-le-mul_left H h)
          (le_trans (le_of_eq (sym (mul_assoc H M a))) (le_trans (mul-le-mul_right a r) (le_of_eq (mul_comm U a))))

  -- it lies between 2^-1001 and 2^1001
  pub under : a < 2 ^ 1001 * b
  under =
      go (2 ^ 1000 * b) (2 ^ 1001 * b) (mul-pos (pow_pos 1000) d.b-pos) (doubled (2 ^ 1000) (2 ^ 1001) b refl)
      (at_most a b largest (2 ^ 1000) (2 ^ 1074) (leb→le _ _ tt) d.a_most d.b-least)
    where
      doubled : (x y b : ℕ) → x * 2 ≡ y → y * b ≡ 2 * (x * b)
      doubled x y b e = ap (λ (t : ℕ). t * b) (sym e) ∙ regrouped x b
        where
          regrouped : (x b : ℕ) → x * 2 * b ≡ 2 * (x * b)
          regrouped x b = omega arith

      go : (y z : ℕ) → 0 < y → z ≡ 2 * y → a ≤ y → a < z
      go y z p e l = omega arith

  pub over : b ≤ 2 ^ 1001 * a
  over = at_most b a largest (2 ^ 1001) (2 ^ 1074) (leb→le _ _ tt) d.b-most d.a_least

-- the rounded quotient is above 0
pub quotient-pos : (g b x : ℕ) → 0 < x → x * 2 ^ 53 ≤ g * b * 2 ^ 53 + x → 0 < g
quotient-pos zero b x p h = let e : 0 * b ≡ 0 = zero-mul b in omega arith
quotient-pos (suc g) b x p h = omega arith

-- ---- the logarithm of the rounded quotient

pub record Logged (l : Float) (a b : ℕ) : Type 0 where
  pub near : LogNear l (lOf a b)
  pub size : near.units ≤ 4096 * 2 ^ 1074

pub logged : (q : Float) {a b : ℕ} → Sides a b → T (fits binary64 q) → Divided binary64 q false a b → Logged (log_of q) a b
logged q {a} {b} d F r =
    let n : LogNear (log_of q) (lOf a b) =
    log_of-quotient q a b r.units F d.a_pos d.b-pos
    (quotient-pos r.units b (a * 2 ^ 1074) (mul-pos d.a_pos (pow_pos 1074)) r.near.not-below) r.is r.near in
    record {
      near = n;
      size = log-size (log_of q) (lOf a b) (over_pos_of a b d.b-pos)
          (L-most a b 1001 d.a_pos d.b-pos (under d) (over d)) n;
    }
