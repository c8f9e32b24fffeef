-- The logarithm of a rounded quotient z/w is near L of the exact one, if the quotient does not overflow; and if it does, it is an infinity.
-- Assumes nothing.
use mathlib.Core.Path.{◌≡◌, sym, ap, ◌∙◌, subst}
use mathlib.Core.Bool.{Bool, false, cond}
use mathlib.Core.Logic.{◌⊎◌, inl, inr}
use Prim.Native.Nat.{ℕ, suc, ◌+◌, ◌*◌, ◌^◌, ◌≤◌, ◌<◌}
use native.Mathlib.Nat.{le_trans, le_of_eq, mul-pos, mul-le-mul_left, mul-le-mul_right, le_of_mul-le-mul_right}
use native.Mathlib.Nat.{lt_of_lt_of_le, lt_of_le_of_lt, lt_of_mul-lt-mul_right, mul-lt-mul_of_pos_right}
use native.Mathlib.Decide.{dec_lt}
use native.Mathlib.Omega.{arith}
use borrow.Author.Tests.{le-ltb}
use lib.Dec.{T, lit≤}
use lib.Pow.{pow_pos}
use lib.Ieee.{Float, inf, Format, binary64, prec, emax, low, fits, round, units, odd}
use lib.Ieee.Fits.{round_is}
use lib.Ieee.Order.{drop, kept}
use lib.Ieee.Scale.{grid, overflow}
use Rattle.double.specs.Operators.{◌⊘◌}
use Rattle.double.specs.Fields.{Sized, Units}
use Rattle.rounding.proofs.errors.Rounded.{round_value, normal_near}
use Rattle.rounding.proofs.errors.Divided.{Divided, div_is, div_near}
use Rattle.series.specs.Series.{Signed, lOf}
use Rattle.series.proofs.SignedFractions.{over_pos_of}
use Rattle.series.specs.change.Distances.{Apart}
use Rattle.certain.proofs.power.LogSizes.{L-within}
use Rattle.logarithm.specs.Steps.{log_of}
use Rattle.certain.proofs.Coordinates.{quotient-pos}
use Rattle.certain.proofs.Logarithms.{close_in_units, moved_little}
use Rattle.certain.proofs.power.Distances.{Near, through}
use Rattle.certain.proofs.power.Terms.{logged}
use Rattle.certain.proofs.power.Coordinates.{LogOf}

abbrev U : ℕ
U = 2 ^ 1074

units-over : (f : Format) (s : Bool) (q k : ℕ) → 2 ^ (low f + suc (emax f)) ≤ q * 2 ^ k → units f s q k ≡ inf s
unfolding units
units-over f s q k h =
    ap (λ (b : Bool). cond b (odd (suc (prec f)) s q k (low f)) (inf s)) (le-ltb (q * 2 ^ k) (2 ^ (low f + suc (emax f))) h)

too_large : (a b : ℕ) → overflow binary64 ≤ grid binary64 a b → round binary64 false a b ≡ inf false
too_large a b h =
    round_is binary64 false a b ∙ units-over binary64 false (kept 53 (a * 2 ^ low binary64) b) (drop 53 (a * 2 ^ low binary64) b) h

-- the quotient is in range, or infinite
pub record InRange (q : Float) (a b : ℕ) : Type 0 where
  pub divided : Divided binary64 q false a b
  pub under : divided.units < overflow binary64

pub quotient_cases :
    (z w : Float) (a b : ℕ) → 0 < b → Units z a → Units w b → 2 ^ 52 * b ≤ a * U → ((z ⊘ w) ≡ inf false) ⊎ InRange (z ⊘ w) a b
quotient_cases z w a b pb h k least = go (dec_lt (grid binary64 a b) (overflow binary64))
  where
    e : z ⊘ w ≡ round binary64 false a b
    e = div_is binary64 z w false false a b pb h k

    go : Dec (grid binary64 a b < overflow binary64) → ((z ⊘ w) ≡ inf false) ⊎ InRange (z ⊘ w) a b
    go (yes l) = inr (record {
      divided = record {
        units = grid binary64 a b;
        is = subst (λ (q : Float). Sized q false (grid binary64 a b)) (sym e) (round_value binary64 false a b l);
        near = normal_near binary64 a b pb least;
      };
      under = l;
    })
    go (no l) = inl (e ∙ too_large a b (back l))
      where
        back : {x y : ℕ} → (x < y → ⊥) → y ≤ x
        back n = omega arith

-- ---- the logarithm of a quotient in range

half : (x y : ℕ) → x * 2 ^ 53 ≤ y * 2 ^ 53 + x → x ≤ 2 * y
half x y h = omega arith

-- g/z is near a/b: a is below 2^1025·b where g is below 2^1024·z
under_shape : (a b g z M : ℕ) → 0 < b → 0 < z → g < M * z → a * z * 2 ^ 53 ≤ g * b * 2 ^ 53 + a * z → a < 2 * M * b
under_shape a b g z M pb pz l h =
    lt_of_mul-lt-mul_right z
    (lt_of_le_of_lt (half (a * z) (g * b) h) (lt_of_lt_of_le (doubled (mul-lt-mul_of_pos_right l pb)) (le_of_eq (regrouped M b z))))
  where
    doubled : g * b < M * z * b → 2 * (g * b) < 2 * (M * z * b)
    doubled i = twice (g * b) (M * z * b) i
      where
        twice : (x y : ℕ) → x < y → 2 * x < 2 * y
        twice x y h = omega arith

    regrouped : (M b z : ℕ) → 2 * (M * z * b) ≡ 2 * M * b * z
    regrouped M b z = omega arith

-- z is at most 2^1024·g
over_shape : (a b g z K M : ℕ) → 0 < a → b ≤ 2 * z → z ≤ K * a → 4 * K ≤ M → a * z * 2 ^ 53 ≤ g * b * 2 ^ 53 + a * z → 0 < z → z ≤ M * g
over_shape a b g z K M pa lb la room h pz =
    le_trans la (le_trans (mul-le-mul_left K few) (le_trans (le_of_eq (regrouped K g)) (mul-le-mul_right g room)))
  where
    few : a ≤ 4 * g
    few = le_of_mul-le-mul_right {k = z} (le_trans (half (a * z) (g * b) h) (go (mul-le-mul_left g lb))) pz
      where
        go : g * b ≤ g * (2 * z) → 2 * (g * b) ≤ 4 * g * z
        go i = omega arith

    regrouped : (K g : ℕ) → K * (4 * g) ≡ 4 * K * g
    regrouped K g = omega arith

apart_near : (x y : Signed) → Apart (2 ^ 52) x y → Near (2 ^ 52) 1 x y
apart_near x y p = record { ahead = p.ahead; behind = p.behind }

pub not_infinite :
    (z w : Float) (a b : ℕ) → 0 < b → Units z a → Units w b → 2 ^ 52 * b ≤ a * U → a ≤ 2 ^ 1023 * b → InRange (z ⊘ w) a b
not_infinite z w a b pb h k least most = go (quotient_cases z w a b pb h k least)
  where
    go : ((z ⊘ w) ≡ inf false) ⊎ InRange (z ⊘ w) a b → InRange (z ⊘ w) a b
    go (inl e) = absurd (subst (λ (q : Float). Sized q false d') e (div_near binary64 z w false false a b pb h k most least).is)
      where
        d' : ℕ
        d' = (div_near binary64 z w false false a b pb h k most least).units
    go (inr r) = r

-- a/b the quotient that is computed, a/c the exact one
module _
    (q : Float) (a b c K : ℕ) (F : T (fits binary64 q)) (pa : 0 < a) (pb : 0 < b) (pc : 0 < c) (b-most : b ≤ 2 * U) (a_least : U ≤ K * a)
    (K-most : 4 * K ≤ 2 ^ 1024) (c-most : c ≤ 2 * b) (b_near : b ≤ 2 * c)
    (r : InRange q a b) (moved : Near (2 ^ 52) 2 (lOf a c) (lOf a b)) where
  abbrev d : Divided binary64 q false a b
  d = r.divided

  abbrev in_range : d.units < overflow binary64
  in_range = r.under

  g_pos : 0 < d.units
  g_pos = quotient-pos d.units b (a * U) (mul-pos pa (pow_pos 1074)) d.near.not-below

  g_small : (lOf d.units U).plus + (lOf d.units U).less ≤ 719 * (lOf d.units U).over
  g_small =
      L-within d.units U 1024 719 g_pos (pow_pos 1074) (lt_of_lt_of_le in_range (lit≤ tt))
      (over_shape a b d.units U K (2 ^ 1024) pa b-most a_least K-most d.near.not-below (pow_pos 1074)) (lit≤ tt)

  exact_small : (lOf a c).plus + (lOf a c).less ≤ 719 * (lOf a c).over
  exact_small =
      L-within a c 1026 719 pa pc under over (lit≤ tt)
    where
      under : a < 2 ^ 1026 * c
      under =
          lt_of_lt_of_le (under_shape a b d.units U (2 ^ 1024) pb (pow_pos 1074) (lt_of_lt_of_le in_range (lit≤ tt))
          d.near.not-below)
          (le_trans (mul-le-mul_left (2 * 2 ^ 1024) b_near) (le_of_eq (go (2 ^ 1024) c)))
        where
          go : (M c : ℕ) → 2 * M * (2 * c) ≡ 4 * M * c
          go M c = omega arith

      over : c ≤ 2 ^ 1026 * a
      over =
          le_trans c-most (le_trans (mul-le-mul_left 2 (le_trans b-most (mul-le-mul_left 2 a_least)))
          (le_trans (le_of_eq (go K a)) (le_trans (mul-le-mul_right a K-most) (mul-le-mul_right a (lit≤ tt)))))
        where
          go : (K a : ℕ) → 2 * (2 * (K * a)) ≡ 4 * K * a
          go K a = omega arith

  pub quotient-log : LogOf (log_of q) (lOf a c)
  quotient-log = record {
    log =
        logged (log_of q) (lOf a c) (lOf d.units U) (close_in_units q d.units F g_pos d.is)
        (over_pos_of d.units U (pow_pos 1074)) g_small
        (through (over_pos_of a b pb) moved
        (apart_near (lOf a b) (lOf d.units U) (moved_little a b d.units U pa pb g_pos (pow_pos 1074) d.near)))
        exact_small (over_pos_of a c pc);
    small = exact_small;
    over-pos = over_pos_of a c pc;
  }
