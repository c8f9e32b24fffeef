-- The exponent α: its units, its weight and that of 1 - α. Assumes nothing.
use mathlib.Core.Path.{subst}
use mathlib.Core.Bool.{Bool, true, false}
use Prim.Native.Nat.{ℕ, ◌+◌, ◌-◌, ◌*◌, ◌^◌, ◌≤◌, ◌<◌}
use native.Mathlib.Nat.{le_of_lt, sub-le}
use native.Mathlib.Omega.{arith}
use lib.Dec.{T, lit≤}
use lib.Count.{count_trailing_zeros}
use lib.Ieee.{Float, nan, inf, fin, binary64, of_bits, of_fields, odd, lt, to_bits}
use lib.Ieee.Scale.{finite}
use Rattle.double.specs.Operators.{◌⊖◌, ◌⊗◌, ◌≺◌}
use Rattle.double.specs.Numbers.{#0, #1, #2}
use Rattle.double.specs.Fields.{Sized, Units, mag, field_of, digits_of, sign_of}
use Rattle.double.proofs.Fields.{measured}
use Rattle.rounding.specs.Within.{Within}
use Rattle.rounding.proofs.errors.Added.{Totalled}
use Rattle.rounding.proofs.errors.Ordered.{lt_units}
use Rattle.certain.proofs.Coordinates.{above_zero}
use Rattle.certain.specs.power.Meaning.{Exponent}
use Rattle.certain.proofs.power.Weights.{one-units, Weight, difference_near, gap, weight, twice, twice_behind, twice_behind_some}
use Rattle.certain.proofs.power.Weights.{product_twice}

abbrev U : ℕ
U = 2 ^ 1074

finite_of_tests : (x : Float) → T (#0 ≺ x) → T (x ≺ #1) → T (finite x)
unfolding lt of_bits of_fields odd count_trailing_zeros
finite_of_tests nan a b = absurd a
finite_of_tests (inf true) a b = absurd a
finite_of_tests (inf false) a b = absurd b
finite_of_tests (fin s m e) a b = tt

-- A units, between 0 and 1
pub record InUnits (α : Float) : Type 0 where
  pub units : ℕ
  pub is : Units α units
  pub some : 0 < units
  pub less : units < U

pub in_units_lem : (α : Float) → Exponent α → InUnits α
in_units_lem α x =
    let b = to_bits binary64 α in
    let n = mag (field_of b) (digits_of b) in
    let v = (measured α x.holds (finite_of_tests α x.above_0 x.below_1)).is in
    let z = above_zero α (sign_of b) n v x.above_0 in
    let i : Units α n = subst (λ (s : Bool). Sized α s n) z.0 v in
    record { units = n; is = i; some = z.1; less = go (lt_units binary64 α #1 false false n U i one-units x.below_1) }
  where
    go : {a z : ℕ} → a + 0 < z + 0 → a < z
    go h = omega arith

pub record Positive (w : Float) : Type 0 where
  pub units : ℕ
  pub is : Units w units
  pub some : 0 < units

pub exactly : (n : ℕ) → Within (n * 2 ^ 53) (n * 2 ^ 53) (n + 2 ^ 52)
exactly n = record { not-above = omega arith; not-below = omega arith }

module _ (α : Float) (x : Exponent α) where
  abbrev pub A : ℕ
  A = (in_units_lem α x).units

  abbrev pub B : ℕ
  B = U - A

  pub rest : Totalled binary64 (#1 ⊖ α) B
  rest = difference_near #1 α U A one-units (in_units_lem α x).is (le_of_lt (in_units_lem α x).less) (lit≤ tt)

  pub rest-least : 2 ^ 1021 ≤ B
  rest-least = gap α A x.holds (in_units_lem α x).is (in_units_lem α x).less

  pub rest-most : B ≤ U
  rest-most = sub-le U A

  pub first-weight : Weight (#2 ⊗ α) (2 * A)
  first-weight = twice α A A (in_units_lem α x).is (exactly A) (le_of_lt (in_units_lem α x).less)

  pub second-weight : Weight (#2 ⊗ (#1 ⊖ α)) (2 * B)
  second-weight = twice (#1 ⊖ α) rest.units B rest.is rest.near rest-most

  pub first-dual : Weight (α ⊗ #2) (2 * A)
  first-dual = twice_behind α A A (in_units_lem α x).is (exactly A) (le_of_lt (in_units_lem α x).less)

  pub first_positive : Positive (α ⊗ #2)
  first_positive = record {
    units = (product_twice α A A (in_units_lem α x).is (exactly A) (le_of_lt (in_units_lem α x).less)).units;
    is = (product_twice α A A (in_units_lem α x).is (exactly A) (le_of_lt (in_units_lem α x).less)).is;
    some = twice_behind_some α A A (in_units_lem α x).is (exactly A) (le_of_lt (in_units_lem α x).less) (in_units_lem α x).some;
  }

  pub rest-weight : Weight (#1 ⊖ α) B
  rest-weight = weight (#1 ⊖ α) rest.units B rest.is rest.near rest-most
