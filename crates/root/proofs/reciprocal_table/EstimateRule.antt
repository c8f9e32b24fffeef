-- Each entry of the table is within the rule on its whole interval: one test, computed over all 128 entries at the two ends. Assumes
-- nothing.
use mathlib.Core.Path.{◌≡◌, refl, sym, subst}
use mathlib.Core.Bool.{Bool, true, false, cond}
use Prim.Native.Nat.{ℕ, ◌+◌, ◌-◌, ◌*◌, ◌/◌, ◌^◌, ◌≤◌, ◌<◌}
use native.Mathlib.Nat.{mul-le-mul_right, le_trans}
use native.Mathlib.Omega.{arith}
use borrow.Author.Tests.{ltb-true, ltb-false, lt-ltb, le-ltb}
use lib.Dec.{T, leb, ltb, leb→le, ltb→lt}
use lib.ListN.{get_or}
use Rattle.arith.proofs.Tables.{both, both_left, both_right, every, at_index}
use Rattle.root.specs.reciprocal_table.Estimates.{estimates, place_of, estimate_of, units, Within128, EstimateRule}

-- the ends of interval i, in units of 2^-24; `low` is whether it is one of those from 1 to 2
abbrev least_by : Bool → ℕ → ℕ
least_by low i = cond low ((64 + i) * 2 ^ 18 + 1) (i * 2 ^ 19 + 1)

abbrev most-by : Bool → ℕ → ℕ
most-by low i = cond low ((65 + i) * 2 ^ 18) ((i + 1) * 2 ^ 19)

abbrev least : ℕ → ℕ
least i = least_by (ltb i 64) i

abbrev most : ℕ → ℕ
most i = most-by (ltb i 64) i

abbrev close_at : ℕ → ℕ → ℕ → Bool
close_at a b e = both (leb (127 * 2 ^ 41) (a * (e * e))) (leb (b * (e * e)) (129 * 2 ^ 41))

right : ℕ → Bool
right i = both (ltb (get_or estimates i 0) (2 ^ 12)) (close_at (least i) (most i) (get_or estimates i 0))

all_right : T (every right 128)
unfolding every right estimates
all_right = tt

module _ (i : ℕ) (h : i < 128) where
  abbrev e : ℕ
  e = get_or estimates i 0

  test : T (both (ltb (get_or estimates i 0) (2 ^ 12)) (close_at (least i) (most i) (get_or estimates i 0)))
  unfolding right
  test = at_index right 128 all_right i h

  entry_short : get_or estimates i 0 < 2 ^ 12
  entry_short = ltb→lt _ _ (both_left (ltb e (2 ^ 12)) _ test)

  ends : T (close_at (least i) (most i) (get_or estimates i 0))
  ends = both_right (ltb e (2 ^ 12)) _ test

  within : (x : ℕ) → least i ≤ x → x ≤ most i → Within128 x (get_or estimates i 0)
  within x a b = record {
    from = le_trans (leb→le _ _ (both_left (leb (127 * 2 ^ 41) (least i * (e * e))) _ ends)) (mul-le-mul_right (e * e) a);
    to = le_trans (mul-le-mul_right (e * e) b) (leb→le _ _ (both_right (leb (127 * 2 ^ 41) (least i * (e * e))) _ ends));
  }

pub place_lt : (m : ℕ) → m < 2 ^ 54 → place_of m < 128
unfolding place_of
place_lt m h = go (ltb m (2 ^ 53)) (ltb-true m (2 ^ 53)) (ltb-false m (2 ^ 53))
  where
    go : (b : Bool) → (b ≡ true → m < 2 ^ 53) → (b ≡ false → 2 ^ 53 ≤ m) → cond b (m / 2 ^ 46 - 64) (m / 2 ^ 47) < 128
    go true f g = let k = f refl in omega arith
    go false f g = omega arith

-- m lies in the interval of its place
module _ (m : ℕ) (lo : 2 ^ 52 ≤ m) (hi : m < 2 ^ 54) where
  inside : (least (place_of m) ≤ units m) × (units m ≤ most (place_of m))
  unfolding place_of
  inside = go (ltb m (2 ^ 53)) (ltb-true m (2 ^ 53)) (ltb-false m (2 ^ 53))
    where
      ends_of :
          (i : ℕ) (b : Bool) → ltb i 64 ≡ b → (least_by b i ≤ units m) × (units m ≤ most-by b i)
          → (least i ≤ units m) × (units m ≤ most i)
      ends_of i b e p = subst (λ (t : Bool). (least_by t i ≤ units m) × (units m ≤ most-by t i)) (sym e) p

      go :
          (b : Bool) → (b ≡ true → m < 2 ^ 53) → (b ≡ false → 2 ^ 53 ≤ m)
          → (least (cond b (m / 2 ^ 46 - 64) (m / 2 ^ 47)) ≤ units m) × (units m ≤ most (cond b (m / 2 ^ 46 - 64) (m / 2 ^ 47)))
      go true f g =
          let k = f refl in
          ends_of (m / 2 ^ 46 - 64) true (lt-ltb (m / 2 ^ 46 - 64) 64 (omega arith)) (omega arith, omega arith)
      go false f g =
          let k = g refl in
          ends_of (m / 2 ^ 47) false (le-ltb (m / 2 ^ 47) 64 (omega arith)) (omega arith, omega arith)

pub estimate_rule : EstimateRule
unfolding estimate_of
estimate_rule = record {
  short = λ m hi. entry_short (place_of m) (place_lt m hi);
  close = λ m lo hi. within (place_of m) (place_lt m hi) (units m) (inside m lo hi).0 (inside m lo hi).1;
}
