-- The second root is the plain one, and takes five correction steps at most: at a positive number by the nearest whole number, elsewhere by
-- the same cases. Assumes nothing.
use mathlib.Core.Path.{◌≡◌, refl, sym, ap, subst, ◌∙◌}
use mathlib.Core.Bool.{Bool, true, false, cond}
use Prim.Native.Nat.{ℕ, ◌+◌, ◌*◌, ◌/◌, ◌%◌, ◌^◌, ◌≤◌, ◌<◌}
use native.Mathlib.Omega.{arith}
use borrow.Author.Tests.{eqb-false, leb-false}
use lib.Dec.{T, leb, eqb, leb→le}
use lib.Ieee.{Float, nan, binary64, fits, is_nan, to_bits, of_bits}
use Rattle.double.specs.Fields.{sign_of, field_of, digits_of, normal_of, Units}
use Rattle.double.specs.declared.Normal.{Normal}
use Rattle.double.proofs.Normalised.{of_low, of_mid}
use Rattle.double.proofs.Fields.{read, digits_lt}
use Rattle.double.proofs.NotNan.{no_nan_of_value}
use Rattle.root.specs.Steps.{root_of, sqrt_fields, sqrt_bits, sqrt_of}
use Rattle.root.proofs.Radicands.{evened}
use Rattle.root.specs.declared.table_root.Root.{Root}
use Rattle.root.specs.table_root.Steps.{whole_root_of, unstepped, table_root_of, table_sqrt_fields, table_sqrt_bits, table_sqrt_of}
use Rattle.root.specs.table_root.SameRoot.{SameRoot}
use Rattle.root.proofs.table_root.ThreeSteps.{whole_root_nearest, steps_most, steps_least}
use Rattle.root.proofs.table_root.Cases.{by_bits, by_fields, of_positive}
use Rattle.root.proofs.table_root.Values.{of_one}

-- the number with its exponent made even is from 2^52 to 2^54
pub in_range : (m k : ℕ) → 2 ^ 52 ≤ m → m < 2 ^ 53 → (2 ^ 52 ≤ m * 2 ^ (k % 2)) × (m * 2 ^ (k % 2) < 2 ^ 54)
in_range m k a b = (omega (arith, (evened m k).least), omega (arith, (evened m k).most))

-- ---- a positive number

root_same : (n : Normal) → 2 ^ 52 ≤ n.m → n.m < 2 ^ 53 → (table_root_of n).root ≡ root_of n
unfolding table_root_of root_of
root_same n a b =
    let i = in_range n.m n.k a b in
    ap (λ (q : ℕ). of_bits binary64 ((n.k / 2 + 485) * 2 ^ 52 + q)) (whole_root_nearest (n.m * 2 ^ (n.k % 2)) i.0 i.1)

root_most : (n : Normal) → (table_root_of n).steps ≤ 5
unfolding table_root_of whole_root_of
root_most n = steps_most (n.m * 2 ^ (n.k % 2))

root_least : (n : Normal) → 4 ≤ (table_root_of n).steps
unfolding table_root_of whole_root_of
root_least n = steps_least (n.m * 2 ^ (n.k % 2))

-- ---- by fields, t below 2^52

low_same : (t : ℕ) → t < 2 ^ 52 → (t ≡ 0 → ⊥) → (table_root_of (normal_of 0 t)).root ≡ root_of (normal_of 0 t)
low_same t l z = let n = of_low t (normal_of 0 t) (omega (arith, z)) l refl in root_same (normal_of 0 t) n.from n.to

mid_same : (f t : ℕ) → t < 2 ^ 52 → (f ≡ 0 → ⊥) → (table_root_of (normal_of f t)).root ≡ root_of (normal_of f t)
mid_same f t l z = rw (of_mid f t z) (root_same (record { m = 2 ^ 52 + t; k = f + 51 }) (omega arith) (omega arith))

-- the choice of `table_sqrt_fields` by its tests
abbrev chosen : Float → ℕ → ℕ → Bool → Bool → Bool → Root
chosen x f t a b c = cond a (cond b (unstepped x) (table_root_of (normal_of 0 t))) (cond c (table_root_of (normal_of f t)) (unstepped x))

fields_same : (x : Float) (f t : ℕ) → t < 2 ^ 52 → (table_sqrt_fields x f t).root ≡ sqrt_fields x f t
unfolding table_sqrt_fields sqrt_fields
fields_same x f t l = go (eqb f 0) (eqb t 0) (leb f 2046) (eqb-false f 0) (eqb-false t 0)
  where
    go :
        (a b c : Bool) → (a ≡ false → f ≡ 0 → ⊥) → (b ≡ false → t ≡ 0 → ⊥)
        → (chosen x f t a b c).root ≡ cond a (cond b x (root_of (normal_of 0 t))) (cond c (root_of (normal_of f t)) x)
    go true true c p q = refl
    go true false c p q = low_same t l (q refl)
    go false b true p q = mid_same f t l (p refl)
    go false b false p q = refl

fields_most : (x : Float) (f t : ℕ) → (table_sqrt_fields x f t).steps ≤ 5
unfolding table_sqrt_fields
fields_most x f t = go (eqb f 0) (eqb t 0) (leb f 2046)
  where
    go : (a b c : Bool) → (chosen x f t a b c).steps ≤ 5
    go true true c = leb→le _ _ tt
    go true false c = root_most (normal_of 0 t)
    go false b true = root_most (normal_of f t)
    go false b false = leb→le _ _ tt

-- ---- every double

-- the choice of `table_sqrt_of` by its tests
abbrev picked : Float → Bool → Bool → Bool → Root
picked x a b c =
    let p = to_bits binary64 x in
    cond a (unstepped nan) (cond b (cond c (unstepped x) (unstepped nan)) (table_sqrt_fields x (field_of p) (digits_of p)))

same : (x : Float) → (table_sqrt_of x).root ≡ sqrt_of x
unfolding table_sqrt_of table_sqrt_bits sqrt_of sqrt_bits
same x = go (is_nan x) (sign_of (to_bits binary64 x)) (eqb (to_bits binary64 x) (2 ^ 63))
  where
    go :
        (a b c : Bool)
        → (picked x a b c).root
        ≡ cond a nan (cond b (cond c x nan) (sqrt_fields x (field_of (to_bits binary64 x)) (digits_of (to_bits binary64 x))))
    go true b c = refl
    go false true true = refl
    go false true false = refl
    go false false c = fields_same x (field_of (to_bits binary64 x)) (digits_of (to_bits binary64 x)) (digits_lt (to_bits binary64 x))

most : (x : Float) → (table_sqrt_of x).steps ≤ 5
unfolding table_sqrt_of table_sqrt_bits
most x = go (is_nan x) (sign_of (to_bits binary64 x)) (eqb (to_bits binary64 x) (2 ^ 63))
  where
    go : (a b c : Bool) → (picked x a b c).steps ≤ 5
    go true b c = leb→le _ _ tt
    go false true true = leb→le _ _ tt
    go false true false = leb→le _ _ tt
    go false false c = fields_most x (field_of (to_bits binary64 x)) (digits_of (to_bits binary64 x))

least : (x : Float) (n : ℕ) → T (fits binary64 x) → Units x n → 0 < n → 4 ≤ (table_sqrt_of x).steps
least x n F u p =
    let b = to_bits binary64 x in
    let r = read x false n F u in
    subst (λ (y : Root). 4 ≤ y.steps)
    (sym (by_bits x (no_nan_of_value x false n (2 ^ 1074) u)
    ∙ by_fields x b (leb-false (2 ^ 63) b r.sign)
    ∙ of_positive x (field_of b) (digits_of b) r.field (subst (λ (a : ℕ). 0 < a) r.size p)))
    (root_least (normal_of (field_of b) (digits_of b)))

pub same_root : SameRoot
same_root = record {
  same = same;
  every_bit = λ b h. ap (to_bits binary64) (same (of_bits binary64 b));
  most = λ x. omega (arith, most x);
  reached = ap (λ (r : Root). r.steps) of_one;
  least = least;
}
