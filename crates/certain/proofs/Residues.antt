-- The computed residue is near b·l + x, with l the computed logarithm: within 2^-51·(b·(1+|l|) + |c|). Assumes nothing.
-- Primal: b = s2, x = -s1, c = s1. Dual: b = -z1, x = z2 - z1, c = z2.
use mathlib.Core.Path.{◌≡◌, refl, subst}
use mathlib.Core.Bool.{Bool, true, false, not}
use Prim.Native.Nat.{ℕ, ◌+◌, ◌*◌, ◌^◌, ◌≤◌}
use native.Mathlib.Omega.{arith}
use lib.Ieee.{Float, binary64, unlike}
use Rattle.double.specs.Operators.{◌⊖◌, ◌⊗◌}
use Rattle.double.specs.Fields.{Sized, Units}
use Rattle.rounding.specs.Within.{Within}
use Rattle.rounding.specs.errors.Errors.{above, below}
use Rattle.rounding.proofs.errors.Multiplied.{Multiplied, mul_near}
use Rattle.rounding.proofs.errors.Added.{Added, sub_near, added-most}
use Rattle.certain.specs.Coordinates.{largest}
use Rattle.certain.proofs.OneOperation.{product_most}
use Rattle.certain.proofs.ResidueSums.{primal_sum_lem, dual-sum}
use Rattle.certain.proofs.Room.{product_fits, rounded_most, total_fits, pair_fits, pair_and_fits}

-- (rp - rm)/U is at most b/U·(lp - lm)/U + (xp - xm)/U and 2^-51 of the weight, both sides multiplied by 2^53 · U²; U is 2^1074
abbrev ResidueAtMost : ℕ → ℕ → ℕ → ℕ → ℕ → ℕ → ℕ → ℕ → ℕ → Type 0
ResidueAtMost rp rm b lp lm xp xm h c =
    2 ^ 53 * (rp * 2 ^ 1074 + b * lm + xm * 2 ^ 1074)
    ≤ 2 ^ 53 * (rm * 2 ^ 1074 + b * lp + xp * 2 ^ 1074) + 4 * (b * (2 ^ 1074 + h) + c * 2 ^ 1074)

-- r is near b·l + x
pub record ResidueNear (r : Float) (b h c lp lm xp xm : ℕ) : Type 0 where
  pub sign : Bool
  pub units : ℕ
  pub is : Sized r sign units
  pub not-above : ResidueAtMost (above sign units) (below sign units) b lp lm xp xm h c
  pub not-below : ResidueAtMost (below sign units) (above sign units) b lm lp xm xp h c

-- a product of b with ±h has the sign of the second
pub signed_product :
    (s : Bool) (n b h U : ℕ) → Within (n * U * 2 ^ 53) (b * h * 2 ^ 53) (b * h + 2 ^ 52 * U)
    → Within (2 ^ 53 * (above s n * U + b * below s h)) (2 ^ 53 * (below s n * U + b * above s h)) (b * h + 2 ^ 52 * U)
signed_product true n b h U w = record { not-above = omega (arith, w.not-below); not-below = omega (arith, w.not-above) }
signed_product false n b h U w = record { not-above = omega (arith, w.not-above); not-below = omega (arith, w.not-below) }

pub unlike_false : (s : Bool) → unlike false s ≡ s
unlike_false true = refl
unlike_false false = refl

unlike_true : (s : Bool) → not (unlike true s) ≡ s
unlike_true true = refl
unlike_true false = refl

-- a number of at most 4096 is one of at most 8195
more : (h U : ℕ) → h ≤ 4096 * U → h ≤ 8195 * U
more h U l = omega arith

-- |x| is b, l is ±h, y is ±c
module _
    (x l y : Float) (b h c : ℕ) (sl sy : Bool) (is-h : Sized l sl h) (is_c : Sized y sy c) (b-least : 2 ^ 60 ≤ b)
    (b-most : b ≤ largest * 2 ^ 1074) (h-most : h ≤ 4096 * 2 ^ 1074)
    (c-most : c ≤ largest * 2 ^ 1074) where
  fine : b * h ≤ 2 ^ 1023 * (2 ^ 1074 * 2 ^ 1074)
  fine = product_fits b h b-most (more h (2 ^ 1074) h-most)

  product_size : (n : ℕ) → n * 2 ^ 1074 ≤ 2 * (b * h) + 2 ^ 1074 → n ≤ 16391 * (largest * 2 ^ 1074)
  product_size n k = rounded_most b h n b-most (more h (2 ^ 1074) h-most) k

  -- x ⊗ l ⊖ y, x being b
  module _ (is_b : Units x b) where
    product : Multiplied binary64 (x ⊗ l) sl b h
    product = subst (λ (s : Bool). Multiplied binary64 (x ⊗ l) s b h) (unlike_false sl) (mul_near binary64 x l false sl b h is_b is-h fine)

    abbrev n : ℕ
    n = product.units

    n-most : n * 2 ^ 1074 ≤ 2 * (b * h) + 2 ^ 1074
    n-most = product_most n (2 ^ 1074) (b * h) product.near.not-above

    difference : Added binary64 (x ⊗ l ⊖ y) sl n (not sy) c
    difference = sub_near binary64 (x ⊗ l) y sl sy n c product.is is_c (total_fits n c (product_size n n-most) c-most)

    pub primal_near : ResidueNear (x ⊗ l ⊖ y) b h c (above sl h) (below sl h) (above (not sy) c) (below (not sy) c)
    primal_near =
        let p = signed_product sl n b h (2 ^ 1074) product.near in
        record {
          sign = difference.sign;
          units = difference.units;
          is = difference.is;
          not-above =
              primal_sum_lem b h c (2 ^ 1074) n (above difference.sign difference.units) (below difference.sign difference.units)
              (above sl n) (below sl n) (above sl h) (below sl h)
              (above (not sy) c) (below (not sy) c) b-least n-most p.not-above difference.near.not-above;
          not-below =
              primal_sum_lem b h c (2 ^ 1074) n (below difference.sign difference.units) (above difference.sign difference.units)
              (below sl n) (above sl n) (below sl h) (above sl h)
              (below (not sy) c) (above (not sy) c) b-least n-most p.not-below difference.near.not-below;
        }

  -- y ⊖ x ⊖ x ⊗ l, x being -b
  module _ (is_b : Sized x true b) where
    first : Added binary64 (y ⊖ x) sy c false b
    first = sub_near binary64 y x sy true c b is_c is_b (pair_fits b c b-most c-most)

    minus_product : Multiplied binary64 (x ⊗ l) (unlike true sl) b h
    minus_product = mul_near binary64 x l true sl b h is_b is-h fine

    abbrev k : ℕ
    k = minus_product.units

    k-most : k * 2 ^ 1074 ≤ 2 * (b * h) + 2 ^ 1074
    k-most = product_most k (2 ^ 1074) (b * h) minus_product.near.not-above

    abbrev d : ℕ
    d = first.units

    second : Added binary64 (y ⊖ x ⊖ x ⊗ l) first.sign d sl k
    second =
        subst (λ (s : Bool). Added binary64 (y ⊖ x ⊖ x ⊗ l) first.sign d s k) (unlike_true sl)
        (sub_near binary64 (y ⊖ x) (x ⊗ l) first.sign (unlike true sl) d k first.is minus_product.is
        (pair_and_fits b c d k b-most c-most (added-most first) (product_size k k-most)))

    pub dual_near : ResidueNear (y ⊖ x ⊖ x ⊗ l) b h c (above sl h) (below sl h) (above sy c + b) (below sy c + 0)
    dual_near =
        let p = signed_product sl k b h (2 ^ 1074) minus_product.near in
        record {
          sign = second.sign;
          units = second.units;
          is = second.is;
          not-above =
              dual-sum b h c (2 ^ 1074) k d (above second.sign second.units) (below second.sign second.units)
              (above first.sign d) (below first.sign d) (above sl k) (below sl k)
              (above sl h) (below sl h) (above sy c + b) (below sy c + 0) b-least k-most (added-most first) p.not-above
              first.near.not-above second.near.not-above;
          not-below =
              dual-sum b h c (2 ^ 1074) k d (below second.sign second.units) (above second.sign second.units)
              (below first.sign d) (above first.sign d) (below sl k) (above sl k)
              (below sl h) (above sl h) (below sy c + 0) (above sy c + b) b-least k-most (added-most first) p.not-below
              first.near.not-below second.near.not-below;
        }
