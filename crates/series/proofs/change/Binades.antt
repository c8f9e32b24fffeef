-- From x to x + h, for h up to x: what holds of L at both where x + h has the k of x = m·2^k, and where it has the next, holds of L(x) and
-- L(x + h). Over any relation that two equal numbers may enter for one another. Assumes nothing.
use mathlib.Core.Path.{◌≡◌, sym, ap, ap₂, ◌∙◌}
use Prim.Native.Nat.{ℕ, suc, ◌+◌, ◌-◌, ◌*◌, ◌^◌, ◌≤◌, ◌<◌}
use native.Mathlib.Nat.{le_trans, le_of_eq, mul-pos, mul-le-mul_right, pow-suc, le_dest, le-add_right, add-mul}
use native.Mathlib.Decide.{dec_lt}
use native.Mathlib.Omega.{arith}
use lib.Pow.{pow_pos}
use Rattle.series.specs.Series.{Signed, Same, Written, s_num, s_den, lAt, lOf, rise, fall}
use Rattle.series.proofs.Written.{written}
use Rattle.series.proofs.SameFraction.{L-by_any}
use Rattle.series.proofs.SignedFractions.{same_back, over-pos}

-- L by m = (d + p)/d, so that (m-1)/(m+1) is p/(2d + p)
abbrev pub by : ℕ → ℕ → ℕ → ℕ → Signed
by r f p d = record {
  plus = r * (s_num 1 3 * s_den (d + d + p)) + s_num p (d + d + p) * s_den 3;
  less = f * (s_num 1 3 * s_den (d + d + p));
  over = s_den 3 * s_den (d + d + p);
}

pub as_by : (r f p d : ℕ) → lAt r f (d + p) d ≡ by r f p d
unfolding lAt
as_by r f p d =
    ap₂ (λ (u v : ℕ). record { plus = r * (s_num 1 3 * s_den v) + s_num u v * s_den 3; less = f * (s_num 1 3 * s_den v); over = s_den 3 * s_den v })
    (omega arith) (omega arith)

module _ (a e c : ℕ) (pa : 0 < a) (pc : 0 < c) (small : e ≤ a) where
  abbrev r : ℕ
  r = rise a c

  abbrev f : ℕ
  f = fall a c

  abbrev d : ℕ
  d = c * 2 ^ r

  abbrev h : ℕ
  h = e * 2 ^ f

  own : Written a c r f (a * 2 ^ f) d
  own = written a c pa pc

  pd : 0 < d
  pd = mul-pos pc (pow_pos r)

  more : (a + e) * 2 ^ f ≡ a * 2 ^ f + h
  more = add-mul a e (2 ^ f)

  pos_sum : 0 < a + e
  pos_sum = go pa
    where
      go : 0 < a → 0 < a + e
      go l = omega arith

  -- the numerator of m, taken apart
  module _ (p : ℕ) (is : d + p ≡ a * 2 ^ f) where
    before : Same (lAt r f (d + p) d) (lOf a c)
    before = same_back (L-by_any pa pc (rw is own))

    p_small : p < d
    p_small = go (a * 2 ^ f) d is own.below_two
      where
        go : (m d : ℕ) → d + p ≡ m → m < 2 * d → p < d
        go m d s l = omega arith

    h_small : h ≤ d + p
    h_small = le_trans (mul-le-mul_right (2 ^ f) small) (le_of_eq (sym is))

    after : p + h < d → Written (a + e) c r f (d + (p + h)) d
    after l = record {
      from_one = le-add_right d (p + h);
      below_two = few d (p + h) l;
      value = ap (λ (z : ℕ). z * d) (joined (a * 2 ^ f) ((a + e) * 2 ^ f) h d p more is);
    }
      where
        joined : (m x h d p : ℕ) → x ≡ m + h → d + p ≡ m → x ≡ d + (p + h)
        joined m x h d p s t = omega arith

        few : (d z : ℕ) → z < d → d + z < 2 * d
        few d z l = omega arith

    after_next : (g q : ℕ) → p + g ≡ d → g + q ≡ h → Written (a + e) c (suc r) f (d + d + q) (d + d)
    after_next g q s t = record {
      from_one = le-add_right (d + d) q;
      below_two = few d h p_small h_small s t;
      value =
          ap₂ ◌*◌ (joined (a * 2 ^ f) ((a + e) * 2 ^ f) h d p more is s t)
          (doubled c (2 ^ r) ∙ ap (λ (z : ℕ). c * z) (sym (pow-suc 2 r)));
    }
      where
        joined : (m x h d p : ℕ) → x ≡ m + h → d + p ≡ m → p + g ≡ d → g + q ≡ h → x ≡ d + d + q
        joined m x h d p i j k l = omega arith

        few : (d h : ℕ) → p < d → h ≤ d + p → p + g ≡ d → g + q ≡ h → d + d + q < 2 * (d + d)
        few d h i j k l = omega arith

        doubled : (c R : ℕ) → c * R + c * R ≡ c * (R * 2)
        doubled c R = omega arith

  module _
      (R : Signed → Signed → Type 0)
      (moves : (x y x' y' : Signed) → 0 < x.over → 0 < y.over → Same x x' → Same y y' → R x y → R x' y')
      (within : (p : ℕ) → d + p ≡ a * 2 ^ f → p < d → R (by r f p d) (by r f (p + h) d))
      -- h = g + q: g to 2^(k+1), q from there
      (beyond : (p g q : ℕ) → d + p ≡ a * 2 ^ f → p + g ≡ d → g + q ≡ h → R (by r f p d) (by (suc r) f q (d + d))) where
    pub walked : R (lOf a c) (lOf (a + e) c)
    walked = go (le_dest own.from_one)
      where
        go : (p : ℕ) × (d + p ≡ a * 2 ^ f) → R (lOf a c) (lOf (a + e) c)
        go (p, is) = cases (dec_lt (p + h) d)
          where
            cases : Dec (p + h < d) → R (lOf a c) (lOf (a + e) c)
            cases (yes l) =
                moves _ _ _ _ (over-pos r f (d + p) d pd) (over-pos r f (d + (p + h)) d pd) (before p is)
                (same_back (L-by_any pos_sum pc (after p is l)))
                (rw (as_by r f p d, as_by r f (p + h) d) (within p is (p_small p is)))
            cases (no l) = next (d - p) (p + h - d) (back p d (p_small p is)) (left p d h (p_small p is) l)
              where
                back : (p d : ℕ) → p < d → p + (d - p) ≡ d
                back p d l = omega arith

                left : (p d h : ℕ) → p < d → (p + h < d → ⊥) → d - p + (p + h - d) ≡ h
                left p d h l k = omega arith

                twice : {d : ℕ} → 0 < d → 0 < d + d
                twice l = omega arith

                next : (g q : ℕ) → p + g ≡ d → g + q ≡ h → R (lOf a c) (lOf (a + e) c)
                next g q s t =
                    moves _ _ _ _ (over-pos r f (d + p) d pd) (over-pos (suc r) f (d + d + q) (d + d) (twice pd)) (before p is)
                    (same_back (L-by_any pos_sum pc (after_next p is g q s t)))
                    (rw (as_by r f p d, as_by (suc r) f q (d + d)) (beyond p g q is s t))
