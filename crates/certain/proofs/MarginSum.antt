-- The error sum of the margin, over plain whole numbers: 2^-40·(b·(1+h) + c), of the steps u = 1+h, v = b·u, w = v+c. U units are 1, and T
-- units, the factor, are at least 2^-40. Assumes nothing.
use mathlib.Core.Path.{sym}
use Prim.Native.Nat.{ℕ, ◌+◌, ◌*◌, ◌^◌, ◌≤◌, ◌<◌}
use native.Mathlib.Nat.{le_trans, le_of_eq, mul_assoc, mul-le-mul_left, mul-le-mul_right, le_of_mul-le-mul_right}
use lib.Dec.{leb→le}
use native.Mathlib.Omega.{arith}
use Rattle.certain.proofs.OneOperation.{sum-least, product_least}

-- each step at least 7/8 of itself
margin_chain :
    (x y z n u : ℕ) → 7 * x ≤ 8 * u → 7 * u ≤ 8 * y → 7 * (y + z) ≤ 8 * n → 2048 * (x + z) ≤ 2 ^ 9 * 7 * n
margin_chain x y z n u h k l = omega arith

pub margin-sum :
    (b h c U T u v w m : ℕ) → U ≤ 2 ^ 40 * T → 2 ^ 60 ≤ b → 2 ^ 60 ≤ U → (U + h) * 2 ^ 53 ≤ u * 2 ^ 53 + (U + h + 2 ^ 52)
    → b * u * 2 ^ 53 ≤ v * U * 2 ^ 53 + (b * u + 2 ^ 52 * U) → (v + c) * 2 ^ 53 ≤ w * 2 ^ 53 + (v + c + 2 ^ 52)
    → T * w * 2 ^ 53 ≤ m * U * 2 ^ 53 + (T * w + 2 ^ 52 * U) → b * (U + h) + c * U ≤ 2 ^ 41 * (m * U)
margin-sum b h c U T u v w m part lb lU su sv sw sm = weight
  where
    T-positive : 0 < T
    T-positive = go U T lU part
      where
        go : (U T : ℕ) → 2 ^ 60 ≤ U → U ≤ 2 ^ 40 * T → 0 < T
        go U T l k = omega arith

    u_least : 7 * (U + h) ≤ 8 * u
    u_least = sum-least u (U + h) (least U h lU) su
      where
        least : (U h : ℕ) → 2 ^ 60 ≤ U → 8 ≤ U + h
        least U h l = omega arith

    bu_large : 8 * U ≤ b * u
    bu_large = le_trans (few U h u u_least) (mul-le-mul_right u (le_trans (leb→le 16 (2 ^ 60) tt) lb))
      where
        few : (U h u : ℕ) → 7 * (U + h) ≤ 8 * u → 8 * U ≤ 16 * u
        few U h u l = omega arith

    v_least : 7 * (b * u) ≤ 8 * (v * U)
    v_least = product_least v U (b * u) bu_large sv

    -- v is at least b/2, so that its rounding does no harm
    v_large : b ≤ 2 * v
    v_large =
        le_of_mul-le-mul_right {k = U}
        (le_trans (halved (b * U) (b * h) (b * u) (v * U) (spread b U h u (mul-le-mul_left b u_least)) v_least)
        (le_of_eq (sym (mul_assoc 2 v U)))) (positive U lU)
      where
        positive : (U : ℕ) → 2 ^ 60 ≤ U → 0 < U
        positive U l = omega arith

        spread : (b U h u : ℕ) → b * (7 * (U + h)) ≤ b * (8 * u) → 7 * (b * U + b * h) ≤ 8 * (b * u)
        spread b U h u l = omega arith

        halved : (x y z w : ℕ) → 7 * (x + y) ≤ 8 * z → 7 * z ≤ 8 * w → x ≤ 2 * w
        halved x y z w k l = omega arith

    w_least : 7 * (v + c) ≤ 8 * w
    w_least = sum-least w (v + c) (least v b c lb v_large) sw
      where
        least : (v b c : ℕ) → 2 ^ 60 ≤ b → b ≤ 2 * v → 8 ≤ v + c
        least v b c l k = omega arith

    Tw-large : 8 * U ≤ T * w
    Tw-large = le_trans (regrouped U T part) (mul-le-mul_left T (least v b c w lb v_large w_least))
      where
        regrouped : (U T : ℕ) → U ≤ 2 ^ 40 * T → 8 * U ≤ T * 2 ^ 43
        regrouped U T h = omega arith

        least : (v b c w : ℕ) → 2 ^ 60 ≤ b → b ≤ 2 * v → 7 * (v + c) ≤ 8 * w → 2 ^ 43 ≤ w
        least v b c w l k j = omega arith

    m-least : 7 * w ≤ 2 ^ 43 * m
    m-least =
        le_of_mul-le-mul_right {k = T} (shape T w m (m * U) (product_least m U (T * w) Tw-large sm) (mul-le-mul_left m part)) T-positive
      where
        shape : (T w m x : ℕ) → 7 * (T * w) ≤ 8 * x → x ≤ m * (2 ^ 40 * T) → 7 * w * T ≤ 2 ^ 43 * m * T
        shape T w m x h k = omega arith

    weight : b * (U + h) + c * U ≤ 2 ^ 41 * (m * U)
    weight =
        last (b * (U + h)) (c * U) (w * U) (m * U)
        (margin_chain (b * (U + h)) (v * U) (c * U) (w * U) (b * u) (one b U h u (mul-le-mul_left b u_least)) v_least
        (two v c w U (mul-le-mul_right U w_least)))
        (three w m U (mul-le-mul_right U m-least))
      where
        one : (b U h u : ℕ) → b * (7 * (U + h)) ≤ b * (8 * u) → 7 * (b * (U + h)) ≤ 8 * (b * u)
        one b U h u l = omega arith

        two : (v c w U : ℕ) → 7 * (v + c) * U ≤ 8 * w * U → 7 * (v * U + c * U) ≤ 8 * (w * U)
        two v c w U l = omega arith

        three : (w m U : ℕ) → 7 * w * U ≤ 2 ^ 43 * m * U → 7 * (w * U) ≤ 2 ^ 43 * (m * U)
        three w m U l = omega arith

        last : (x z n k : ℕ) → 2048 * (x + z) ≤ 2 ^ 9 * 7 * n → 7 * n ≤ 2 ^ 43 * k → x + z ≤ 2 ^ 41 * k
        last x z n k g l = omega arith
