-- A part of a margin in units of 2^-1074, and that it leaves room for the exponent's errors; Order 5's part and the least one are such
-- parts. Assumes nothing.
use mathlib.Core.Path.{◌≡◌, refl, ap, subst}
use mathlib.Core.Bool.{Bool}
use Prim.Native.Nat.{ℕ, ◌+◌, ◌-◌, ◌*◌, ◌^◌, ◌≤◌, ◌<◌}
use native.Mathlib.Nat.{mul-le-mul_right, le_of_mul-le-mul_right}
use native.Mathlib.Omega.{arith}
use lib.Dec.{lit≤, lit<}
use lib.Count.{count_trailing_zeros}
use lib.Ieee.{Float, binary64, of_bits, of_fields, odd, lt, fits, to_bits, round}
use lib.Ieee.Positive.{num, den, den_pos}
use Rattle.double.specs.Numbers.{pow2}
use Rattle.double.specs.Fields.{Sized, Units, mag, field_of, digits_of, sign_of}
use Rattle.double.proofs.Fields.{measured}
use Rattle.cone.specs.verdict.Margins.{#2⁻³⁰}
use Rattle.certain.proofs.ExactCoordinates.{cross_of_lem}
use Rattle.certain.proofs.Coordinates.{above_zero}
use Rattle.certain.specs.power.Margins.{least_of_power, least_of_wide, Part}

abbrev U : ℕ
U = 2 ^ 1074

-- The exponent's errors in parts of 2^-52, at most. Each logarithm is off by 184320 (720·2^-44), a weight times it by 3250 more, the dual's
-- last doubling by 1088, the sum of two by 1440 (power/Dual, the larger of both). 32 terms of weights up to 5/2 have 5049 each beside the
-- logarithms' (wide/LogSums).
abbrev pub power_errors : ℕ
power_errors = 2 * 184320 + 3 * 3250 + 1088 + 1440

abbrev pub wide_errors : ℕ
wide_errors = 5 * 92160 + 32 * 5049

-- A margin of 2^-k, one of 16n parts, puts the exact numbers apart by one in 9n; the exponent tells of it if its errors are at most one in
-- 9n + 2.
pub record Enough (k errors : ℕ) : Type 0 where
  pub n : ℕ
  pub parts : 2 ^ k ≡ 16 * n
  pub some : 0 < n
  pub few : n ≤ 2 ^ 31
  pub room : errors * (9 * n + 2) ≤ 2 ^ 52

pub power_enough : Enough least_of_power power_errors
power_enough = record { n = 2 ^ (least_of_power - 4); parts = refl; some = lit< tt; few = lit≤ tt; room = lit≤ tt }

pub wide_enough : Enough least_of_wide wide_errors
wide_enough = record { n = 2 ^ (least_of_wide - 4); parts = refl; some = lit< tt; few = lit≤ tt; room = lit≤ tt }

-- a part that leaves room for so many errors
pub record Counted (errors : ℕ) (part : Float) : Type 0 where
  pub units : ℕ
  pub is : Units part units
  pub some : 0 < units
  pub third : 3 * units ≤ U
  pub n : ℕ
  pub n-some : 0 < n
  pub n_few : n ≤ 2 ^ 31
  pub least : U ≤ units * (16 * n)
  pub room : errors * (9 * n + 2) ≤ 2 ^ 52

pub counted : {k errors : ℕ} → Enough k errors → (part : Float) → Part k part → Counted errors part
counted {k} enough part p =
    let b = to_bits binary64 part in
    let n = mag (field_of b) (digits_of b) in
    let v = (measured part p.holds p.finite_number).is in
    let z = above_zero part (sign_of b) n v p.above_0 in
    let i : Units part n = subst (λ (s : Bool). Sized part s n) z.0 v in
    let cross = cross_of_lem part (sign_of b) n v in
    record {
      units = n;
      is = i;
      some = z.1;
      third = few n U (le_of_mul-le-mul_right {k = den part}
          (below (num part) (den part) n U cross (mul-le-mul_right U p.most)) (den_pos part));
      n = enough.n;
      n-some = enough.some;
      n_few = enough.few;
      least =
          le_of_mul-le-mul_right {k = den part}
          (above (num part) (den part) n U (16 * enough.n) cross
          (mul-le-mul_right U (subst (λ (z : ℕ). den part ≤ z * num part) enough.parts p.least))) (den_pos part);
      room = enough.room;
    }
  where
    above : (m d n z k : ℕ) → m * z ≡ n * d → d * z ≤ k * m * z → z * d ≤ n * k * d
    above m d n z k e h = omega (arith, ap (λ (t : ℕ). k * t) e)

    below : (m d n z : ℕ) → m * z ≡ n * d → 4 * m * z ≤ d * z → 4 * n * d ≤ z * d
    below m d n z e h = omega arith

    few : (n z : ℕ) → 4 * n ≤ z → 3 * n ≤ z
    few n z h = omega arith

pub power_order_5 : Part least_of_power #2⁻³⁰
unfolding of_bits of_fields odd count_trailing_zeros fits lt
power_order_5 = record { holds = tt; finite_number = tt; above_0 = tt; least = lit≤ tt; most = lit≤ tt }

pub wide_order_5 : Part least_of_wide #2⁻³⁰
unfolding of_bits of_fields odd count_trailing_zeros fits lt
wide_order_5 = record { holds = tt; finite_number = tt; above_0 = tt; least = lit≤ tt; most = lit≤ tt }

pub power-least : Part least_of_power (pow2 least_of_power)
unfolding of_bits of_fields odd count_trailing_zeros fits lt pow2 round
power-least = record { holds = tt; finite_number = tt; above_0 = tt; least = lit≤ tt; most = lit≤ tt }

pub wide_least : Part least_of_wide (pow2 least_of_wide)
unfolding of_bits of_fields odd count_trailing_zeros fits lt pow2 round
wide_least = record { holds = tt; finite_number = tt; above_0 = tt; least = lit≤ tt; most = lit≤ tt }
