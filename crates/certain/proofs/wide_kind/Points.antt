-- What the test of an exponent, of the signs and of the sizes say of each place. Assumes nothing.
use mathlib.Core.Path.{◌≡◌, sym, subst}
use mathlib.Core.Bool.{Bool, true, false}
use mathlib.Core.List.{List}
use mathlib.Core.Logic.{◌⊎◌, inl, inr}
use Prim.Native.Nat.{ℕ, zero, suc, ◌+◌, ◌-◌, ◌*◌, ◌^◌, ◌≤◌, ◌<◌}
use native.Mathlib.Nat.{le_trans, le_of_eq, le_of_suc-le-suc, eq-or-lt_of_le, not-suc-le-zero, le_of_mul-le-mul_right, lt_of_lt_of_le}
use native.Mathlib.Omega.{arith}
use lib.Dec.{T}
use lib.Count.{count_trailing_zeros}
use lib.ListN.{length, take, length-drop}
use lib.Seq.{get_or-take, get_or-drop, length-take-le}
use lib.Pow.{pow_pos}
use lib.Ieee.{Float, nan, inf, fin, binary64, fits, of_bits, of_fields, odd, lt, le, eq, to_bits}
use lib.Ieee.Fits.{and_l, and_r}
use lib.Ieee.Positive.{positive_of_value, values_of_le}
use lib.Ieee.Scale.{finite}
use Rattle.arith.specs.Turns.{iter}
use Rattle.double.specs.Operators.{◌≺◌, ◌≼◌, ◌⊗◌, at}
use Rattle.double.specs.Numbers.{#0, #1, #2}
use Rattle.double.specs.Fields.{Sized, Units, sign_of, field_of, digits_of, mag}
use Rattle.double.proofs.Fields.{measured}
use Rattle.rounding.specs.Units.{units_of}
use Rattle.genpowcone.specs.loops.Folds.{all_above_zero, above_zero_turn}
use Rattle.certain.specs.Coordinates.{InRange}
use Rattle.certain.proofs.Coordinates.{Coordinate, coordinate, above_zero}
use Rattle.certain.proofs.power.Weights.{one-units, Weight, twice, twice_product, twice-some}
use Rattle.certain.proofs.power.Exponents.{exactly}
use Rattle.genpowcone.specs.Feasible.{signs, tail_of}
use Rattle.certain.specs.wide.Meaning.{most_tail, Exponents, Point}
use Rattle.certain.proofs.wide_kind.Exact.{units-by}

abbrev U : ℕ
U = 2 ^ 1074

-- ---- an exponent

finite_of_tests : (x : Float) → T (#0 ≺ x) → T (x ≼ #1) → T (finite x)
unfolding lt le eq of_bits of_fields odd count_trailing_zeros
finite_of_tests nan a b = absurd a
finite_of_tests (inf true) a b = absurd a
finite_of_tests (inf false) a b = absurd b
finite_of_tests (fin s m e) a b = tt

pub record Exponent (α : Float) : Type 0 where
  pub is : Units α (units_of binary64 α)
  pub some : 0 < units_of binary64 α
  pub most : units_of binary64 α ≤ U

exponent_of_lem : (α : Float) → T (fits binary64 α) → T (#0 ≺ α) → T (α ≼ #1) → Exponent α
exponent_of_lem α F a b =
    let k = to_bits binary64 α in
    let n = mag (field_of k) (digits_of k) in
    let v = (measured α F (finite_of_tests α a b)).is in
    let z = above_zero α (sign_of k) n v a in
    let i : Units α n = subst (λ (s : Bool). Sized α s n) z.0 v in
    let e : n ≡ units_of binary64 α = sym (units-by α false n i) in
    record {
      is = subst (λ (m : ℕ). Units α m) e i;
      some = subst (λ (m : ℕ). 0 < m) e z.1;
      most = subst (λ (m : ℕ). m ≤ U) e
          (le_of_mul-le-mul_right {k = U}
          (values_of_le α #1 n U U U (positive_of_value α n U i z.1) (positive_of_value #1 U U one-units (pow_pos 1074)) i one-units b)
          (pow_pos 1074));
    }

pub exponent_at : {α : List Float} → Exponents α → (i : ℕ) → i < length α → Exponent (at α i)
exponent_at {α} x i l = exponent_of_lem (at α i) (x.doubles i l) (x.above_0 i l) (x.at_most_1 i l)

pub weight-of : {α : Float} → Exponent α → Weight (#2 ⊗ α) (2 * units_of binary64 α)
weight-of {α} x = twice α (units_of binary64 α) (units_of binary64 α) x.is (exactly (units_of binary64 α)) x.most

pub record Positive (w : Float) : Type 0 where
  pub units : ℕ
  pub is : Units w units
  pub some : 0 < units

pub positive_of : {α : Float} → Exponent α → Positive (#2 ⊗ α)
positive_of {α} x =
    let n = units_of binary64 α in
    record {
      units = (twice_product α n n x.is (exactly n) x.most).units;
      is = (twice_product α n n x.is (exactly n) x.most).is;
      some = twice-some α n n x.is (exactly n) x.most x.some;
    }

-- ---- the signs

all_of : (xs : List Float) (n : ℕ) → T (iter (above_zero_turn xs) true n) → (i : ℕ) → i < n → T (#0 ≺ at xs i)
unfolding iter
all_of xs zero t i l = absurd (not-suc-le-zero l)
all_of xs (suc n) t i l =
    go (λ k. all_of xs n (and_l (iter (above_zero_turn xs) true n) (#0 ≺ at xs n) t) i k) (eq-or-lt_of_le (le_of_suc-le-suc l))
  where
    go : (i < n → T (#0 ≺ at xs i)) → (i ≡ n) ⊎ (i < n) → T (#0 ≺ at xs i)
    go k (inl e) = subst (λ (j : ℕ). T (#0 ≺ at xs j)) (sym e) (and_r (iter (above_zero_turn xs) true n) (#0 ≺ at xs n) t)
    go k (inr m) = k m

pub head-above : (α s : List Float) → length α ≤ length s → signs α s ≡ true → (i : ℕ) → i < length α → T (#0 ≺ at s i)
unfolding signs all_above_zero
head-above α s h e i l =
    subst (λ (x : Float). T (#0 ≺ x)) (get_or-take (length α) s i nan l)
    (all_of (take (length α) s) (length (take (length α) s)) (subst T (sym e) tt) i
    (subst (λ (n : ℕ). i < n) (sym (length-take-le (length α) s h)) l))

-- ---- the places of a point

pub record Head (x : Float) : Type 0 where
  pub is : Units x (units_of binary64 x)
  pub some : 0 < units_of binary64 x
  pub coordinate : Coordinate x
  pub same : coordinate.units ≡ units_of binary64 x

pub head_of : (x : Float) → T (fits binary64 x) → InRange x → T (#0 ≺ x) → Head x
head_of x F r t =
    let c = coordinate x F r in
    let z = above_zero x c.sign c.units c.is t in
    let e : c.units ≡ units_of binary64 x = sym (units-by x c.sign c.units c.is) in
    record {
      is = subst (λ (m : ℕ). Units x m) e (subst (λ (s : Bool). Sized x s c.units) z.0 c.is);
      some = subst (λ (m : ℕ). 0 < m) e z.1;
      coordinate = c;
      same = e;
    }

module _ {α s : List Float} (p : Point α s) where
  pub head_at : signs α s ≡ true → (i : ℕ) → i < length α → Head (at s i)
  head_at e i l =
      head_of (at s i) (p.doubles i (lt_of_lt_of_le l p.head)) (p.sizes i (lt_of_lt_of_le l p.head))
      (head-above α s p.head e i l)

  pub tail_length : length (tail_of α s) ≤ most_tail
  tail_length = le_trans (le_of_eq (length-drop (length α) s)) (go (length s) (length α) p.tail)
    where
      go : (m n : ℕ) → m ≤ n + most_tail → m - n ≤ most_tail
      go m n h = omega arith

  pub tail_at : (i : ℕ) → i < length (tail_of α s) → Coordinate (at (tail_of α s) i)
  tail_at i l =
      subst (λ (x : Float). Coordinate x) (sym (get_or-drop (length α) s i nan))
      (coordinate (at s (length α + i)) (p.doubles (length α + i) within) (p.sizes (length α + i) within))
    where
      within : length α + i < length s
      within = go (length s) (length α) i (subst (λ (n : ℕ). i < n) (length-drop (length α) s) l)
        where
          go : (m n i : ℕ) → i < m - n → n + i < m
          go m n i h = omega arith
