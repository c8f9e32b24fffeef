-- The computed margin is at least half of what it would be exactly: 2^-41·(b·(1+|l|) + |c|) at least. Assumes nothing.
use mathlib.Core.Path.{refl, subst}
use mathlib.Core.Bool.{Bool, false}
use Prim.Native.Nat.{ℕ, ◌+◌, ◌*◌, ◌^◌, ◌≤◌}
use lib.Dec.{leb→le}
use lib.Count.{count_trailing_zeros}
use lib.Ieee.{Float, nan, inf, fin, binary64, of_bits, of_fields, odd}
use Rattle.double.specs.Operators.{◌⊕◌, ◌⊗◌}
use Rattle.double.specs.Numbers.{#1}
use Rattle.double.specs.Sizes.{abs_of}
use Rattle.double.specs.Fields.{Sized, Units}
use Rattle.rounding.specs.Units.{units_of}
use Rattle.rounding.proofs.errors.Multiplied.{Multiplied, mul_near}
use Rattle.rounding.proofs.errors.Added.{Totalled, total_near, total_swapped}
use Rattle.expcone.specs.feasible.Weights.{#part}
use Rattle.certain.specs.Coordinates.{largest}
use Rattle.certain.proofs.OneOperation.{sum-most, product_most}
use Rattle.certain.proofs.MarginSum.{margin-sum}
use Rattle.certain.proofs.Room.{one_and_fits, one_and_most, product_fits, rounded_most, total_fits, part_fits}

pub abs_units : (x : Float) (s : Bool) (n : ℕ) → Sized x s n → Units (abs_of x) n
unfolding abs_of
abs_units nan s n h = absurd h
abs_units (inf i) s n h = absurd h
abs_units (fin i m e) s n h = (refl, h.1)

one-units : Units #1 (2 ^ 1074)
unfolding of_bits of_fields odd count_trailing_zeros
one-units = (refl, refl)

-- the factor in units: not below 2^-40, and at most 1
abbrev part_units : ℕ
part_units = units_of binary64 #part

part-is : Units #part part_units
unfolding of_bits of_fields odd count_trailing_zeros
part-is = (refl, refl)

part-least : 2 ^ 1074 ≤ 2 ^ 40 * part_units
unfolding of_bits of_fields odd count_trailing_zeros
part-least = leb→le _ _ tt

part-most : part_units ≤ 2 ^ 1074
unfolding of_bits of_fields odd count_trailing_zeros
part-most = leb→le _ _ tt

-- the margin m is at least 2^-41 of b·(1 + h) + c
pub record Weighed (m : Float) (b h c : ℕ) : Type 0 where
  pub units : ℕ
  pub is : Units m units
  pub heavy : b * (2 ^ 1074 + h) + c * 2 ^ 1074 ≤ 2 ^ 41 * (units * 2 ^ 1074)

-- x is b, l is h, y is c
module _
    (x l y : Float) (b h c : ℕ) (is_b : Units x b) (is-h : Units l h) (is_c : Units y c) (b-least : 2 ^ 60 ≤ b)
    (b-most : b ≤ largest * 2 ^ 1074) (h-most : h ≤ 4096 * 2 ^ 1074)
    (c-most : c ≤ largest * 2 ^ 1074) where
  one_more : Totalled binary64 (#1 ⊕ l) (2 ^ 1074 + h)
  one_more = total_near binary64 #1 l (2 ^ 1074) h one-units is-h (one_and_fits h h-most)

  abbrev u : ℕ
  u = one_more.units

  u_most : u ≤ 8195 * 2 ^ 1074
  u_most = one_and_most h u h-most (sum-most u (2 ^ 1074 + h) one_more.near.not-above)

  product : Multiplied binary64 (x ⊗ (#1 ⊕ l)) false b u
  product = mul_near binary64 x (#1 ⊕ l) false false b u is_b one_more.is (product_fits b u b-most u_most)

  abbrev v : ℕ
  v = product.units

  v_most : v ≤ 16391 * (largest * 2 ^ 1074)
  v_most = rounded_most b u v b-most u_most (product_most v (2 ^ 1074) (b * u) product.near.not-above)

  total : Totalled binary64 (x ⊗ (#1 ⊕ l) ⊕ y) (v + c)
  total = total_near binary64 (x ⊗ (#1 ⊕ l)) y v c product.is is_c (total_fits v c v_most c-most)

  abbrev w : ℕ
  w = total.units

  margin : Multiplied binary64 (#part ⊗ (x ⊗ (#1 ⊕ l) ⊕ y)) false part_units w
  margin =
      mul_near binary64 #part (x ⊗ (#1 ⊕ l) ⊕ y) false false part_units w part-is total.is
      (part_fits part_units v c w part-most v_most c-most (sum-most w (v + c) total.near.not-above))

  pub weigh : Weighed (#part ⊗ (x ⊗ (#1 ⊕ l) ⊕ y)) b h c
  weigh = record {
    units = margin.units;
    is = margin.is;
    heavy =
        margin-sum b h c (2 ^ 1074) part_units u v w margin.units part-least b-least (leb→le _ _ tt) one_more.near.not-below
        product.near.not-below total.near.not-below
        margin.near.not-below;
  }

  -- the other way round
  pub weigh_dual : Weighed (#part ⊗ (y ⊕ x ⊗ (#1 ⊕ l))) b h c
  weigh_dual = subst (λ (z : Float). Weighed (#part ⊗ z) b h c) (total_swapped binary64 (x ⊗ (#1 ⊕ l)) y v c product.is is_c) weigh
