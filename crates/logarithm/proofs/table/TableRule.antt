-- Each entry of the table is within one unit of L: one test, computed over all 256 entries, carries the rule to each. Assumes nothing.
use Rattle.std.proofs.Common.{◌≡◌, ℕ, ◌+◌, ◌-◌, ◌*◌, ◌^◌, ◌<◌, ◌≤◌, Bool, T, leb, get_or, le_of_eq, mul-le-mul_right, mul_comm, mul-le-mul_left, mul-pos, le_of_mul-le-mul_right, arith, leb→le}
use Rattle.arith.proofs.Tables.{both, both_left, both_right, every, at_index}
use Rattle.series.specs.Series.{sum, odd_product, term, s_num, s_den, Signed, Written, Same, lAt, lOf}
use Rattle.series.proofs.Terms.{s_den-pos}
use Rattle.series.proofs.Order.{S-grows}
use Rattle.series.proofs.SameFraction.{L-by_any}
use Rattle.series.proofs.SignedFractions.{same_back, over-pos, at_most_moves, at_least_moves}
use Rattle.logarithm.specs.table.Table.{table, TableRule}

-- x/2^56 is at most p/q, and at least p/q less one unit
abbrev not-above : ℕ → ℕ → ℕ → Bool
not-above p q x = leb (x * q) (2 ^ 56 * p)

abbrev one_below : ℕ → ℕ → ℕ → Bool
one_below p q x = leb (2 ^ 56 * p) (x * q + q)

-- entry i against S(i/(512+i)), which is L(1+i/256)
right : ℕ → Bool
right i =
    both (not-above (s_num i (512 + i)) (s_den (512 + i)) (get_or table i 0)) (one_below (s_num i (512 + i)) (s_den (512 + i)) (get_or table i 0))

all_right : T (every right 256)
unfolding every right table s_num s_den sum term odd_product
all_right = tt

pub entry_not_above : (i : ℕ) → i < 256 → get_or table i 0 * s_den (512 + i) ≤ 2 ^ 56 * s_num i (512 + i)
unfolding right
entry_not_above i h =
    leb→le _ _
    (both_left
    (not-above (s_num i (512 + i)) (s_den (512 + i)) (get_or table i 0))
    (one_below (s_num i (512 + i)) (s_den (512 + i)) (get_or table i 0))
    (at_index right 256 all_right i h))

pub entry-one_below : (i : ℕ) → i < 256 → 2 ^ 56 * s_num i (512 + i) ≤ get_or table i 0 * s_den (512 + i) + s_den (512 + i)
unfolding right
entry-one_below i h =
    leb→le _ _
    (both_right
    (not-above (s_num i (512 + i)) (s_den (512 + i)) (get_or table i 0))
    (one_below (s_num i (512 + i)) (s_den (512 + i)) (get_or table i 0))
    (at_index right 256 all_right i h))

-- S(1/3) is at most 7/8
third_small : 8 * s_num 1 3 ≤ 7 * s_den 3
unfolding s_num s_den sum term odd_product
third_small = leb→le _ _ tt

-- an entry leaves room for the rest of the sum
pub entry_small : (i : ℕ) → i < 256 → get_or table i 0 ≤ 2 ^ 56 - 2 ^ 53
entry_small i h =
    le_of_mul-le-mul_right {k = s_den (512 + i) * s_den 3}
    (chain (get_or table i 0) (s_num i (512 + i)) (s_den (512 + i)) (s_num 1 3) (s_den 3) (entry_not_above i h)
    (S-grows i (512 + i) 1 3 (omega arith) (omega arith) (omega arith)) third_small)
    (mul-pos (s_den-pos (512 + i) (omega arith)) (s_den-pos 3 (omega arith)))
  where
    chain : (x n d t u : ℕ) → x * d ≤ 2 ^ 56 * n → n * u ≤ t * d → 8 * t ≤ 7 * u → x * (d * u) ≤ (2 ^ 56 - 2 ^ 53) * (d * u)
    chain x n d t u a b c = omega (arith, mul-le-mul_right u a, mul-le-mul_left d c)

-- L(1+i/256) with k = 0 and m = (256+i)/256
shape_above :
    (x n d t u : ℕ) → x * d ≤ 2 ^ 56 * n → x * (u * d) + 2 ^ 56 * (0 * (t * d)) ≤ 0 * (u * d) + 2 ^ 56 * (0 * (t * d) + n * u) + u * d
shape_above x n d t u h = omega (arith, mul-le-mul_right u h)

shape_below :
    (x n d t u : ℕ) → 2 ^ 56 * n ≤ x * d + d → 0 * (u * d) + 2 ^ 56 * (0 * (t * d) + n * u) ≤ x * (u * d) + 2 ^ 56 * (0 * (t * d)) + u * d
shape_below x n d t u h = omega (arith, mul-le-mul_right u h)

module _ (i : ℕ) (h : i < 256) where
  parts : (256 + i - 256 ≡ i) × (256 + i + 256 ≡ 512 + i)
  parts = (omega arith, omega arith)

  at_parts_above :
      get_or table i 0 * (lAt 0 0 (256 + i) 256).over + 2 ^ 56 * (lAt 0 0 (256 + i) 256).less
      ≤ 0 * (lAt 0 0 (256 + i) 256).over + 2 ^ 56 * (lAt 0 0 (256 + i) 256).plus + (lAt 0 0 (256 + i) 256).over
  unfolding lAt
  at_parts_above =
      rw (parts.0, parts.1) (shape_above (get_or table i 0) (s_num i (512 + i)) (s_den (512 + i)) (s_num 1 3) (s_den 3) (entry_not_above i h))

  at_parts_below :
      0 * (lAt 0 0 (256 + i) 256).over + 2 ^ 56 * (lAt 0 0 (256 + i) 256).plus
      ≤ get_or table i 0 * (lAt 0 0 (256 + i) 256).over + 2 ^ 56 * (lAt 0 0 (256 + i) 256).less + (lAt 0 0 (256 + i) 256).over
  unfolding lAt
  at_parts_below =
      rw (parts.0, parts.1) (shape_below (get_or table i 0) (s_num i (512 + i)) (s_den (512 + i)) (s_num 1 3) (s_den 3) (entry-one_below i h))

-- 01's rule
pub table-rule : TableRule
table-rule i h = record { not-above = omega (arith, above); not-below = omega (arith, below) }
  where
    l : Signed
    l = lAt 0 0 (256 + i) 256

    one_and_i : Written (256 + i) 256 0 0 (256 + i) 256
    one_and_i = record { from_one = omega arith; below_two = omega arith; value = omega arith }

    same : Same l (lOf (256 + i) 256)
    same = same_back (L-by_any (omega arith) (omega arith) one_and_i)

    above :
        get_or table i 0 * (lOf (256 + i) 256).over + 2 ^ 56 * (lOf (256 + i) 256).less
        ≤ 0 * (lOf (256 + i) 256).over + 2 ^ 56 * (lOf (256 + i) 256).plus + (lOf (256 + i) 256).over
    above =
        at_most_moves same (over-pos 0 0 (256 + i) 256 (omega arith)) (get_or table i 0) 0 (2 ^ 56) l.over (lOf (256 + i) 256).over
        (le_of_eq (mul_comm l.over _))
        (at_parts_above i h)

    below :
        0 * (lOf (256 + i) 256).over + 2 ^ 56 * (lOf (256 + i) 256).plus
        ≤ get_or table i 0 * (lOf (256 + i) 256).over + 2 ^ 56 * (lOf (256 + i) 256).less + (lOf (256 + i) 256).over
    below =
        at_least_moves same (over-pos 0 0 (256 + i) 256 (omega arith)) (get_or table i 0) 0 (2 ^ 56) l.over (lOf (256 + i) 256).over
        (le_of_eq (mul_comm l.over _))
        (at_parts_below i h)
