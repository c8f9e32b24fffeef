-- What a computed exponential tells of an exact exponent: where Y is within 1/k of y and E(y) is above Q by a part in n, Y is above L(Q);
-- where E(y) is below Q by so much, Y is below L(Q). For all n and k of which 1/k is at most 1/(n + 1) less a part in 3^80. Assumes nothing.
use Rattle.std.proofs.Common.{◌≡◌, ℕ, suc, ◌+◌, ◌*◌, ◌<◌, ◌≤◌, Bool, ℤ, sym, refl, subst, le_trans, le_of_eq, le-add_right, lt_irrefl, mul-le-mul_right, lt_of_mul-lt-mul_right, mul-le-mul_left, mul-lt-mul_of_pos_right, mul-pos, lt_of_not-le, mul-one, arith, lit<}
use native.Mathlib.Nat.{le_of_mul-le-mul_left, le_dest}
use native.Mathlib.Nat.{mul-lt-mul_of_pos_left}
use lib.Ieee.{up, down}
use Rattle.series.specs.Series.{Signed, Same, lOf}
use Rattle.series.proofs.SameFraction.{L-of_equal}
use Rattle.series.proofs.SignedFractions.{over_pos_of}
use Rattle.series.specs.change.Distances.{AtMostBy}
use Rattle.series.specs.change.SignedArithmetic.{minus, AboveZero, BelowZero}
use Rattle.exponential.specs.Sum.{third_den, sum_num, sum_den}
use Rattle.exponential.specs.Bound.{Parted}
use Rattle.exponential.specs.inverse.Inverse.{NotAbove, signed, parts, RisesBy}
use Rattle.exponential.proofs.inverse.SFromBelow.{rest}
use Rattle.exponential.proofs.inverse.Inverse.{E-not_above, E-not_below}
use Rattle.exponential.proofs.inverse.LFromBelow.{L-rises, rise_moves}

-- ---- chains of fractions, crosswise. x = (p - l)/o, x' = (p' - l')/o', y = (q - m)/w, Y = (P - M)/O; 1/k between some

-- x + 1/k ≤ x' < y
first_chain :
    (k p l o p' l' o' q m w : ℕ) → 0 < k → 0 < o → 0 < w → k * (p * o' + l' * o) + 1 * (o * o') ≤ k * (p' * o + l * o')
    → p' * w + m * o' < q * o' + l' * w
    → k * (p * w + m * o) + o * w < k * (q * o + l * w)
first_chain k p l o p' l' o' q m w pk po pw h g =
    lt_of_mul-lt-mul_right o'
    (go (k * p * o' * w) (k * l' * o * w) (o * o' * w) (k * p' * o * w) (k * l * o' * w) (k * o * m * o') (k * o * q * o')
    (one k p l o p' l' o' w (mul-le-mul_right w h)) (two k o p' w m o' q l' (mul-lt-mul_of_pos_left g (mul-pos pk po)))
    (left k p w m o o') (right k q o l w o'))
  where
    one :
        (k p l o p' l' o' w : ℕ) → (k * (p * o' + l' * o) + 1 * (o * o')) * w ≤ k * (p' * o + l * o') * w
        → k * p * o' * w + k * l' * o * w + o * o' * w ≤ k * p' * o * w + k * l * o' * w
    one k p l o p' l' o' w h = omega arith

    two :
        (k o p' w m o' q l' : ℕ) → k * o * (p' * w + m * o') < k * o * (q * o' + l' * w)
        → k * p' * o * w + k * o * m * o' < k * o * q * o' + k * l' * o * w
    two k o p' w m o' q l' h = omega arith

    left : (k p w m o o' : ℕ) → (k * (p * w + m * o) + o * w) * o' ≡ k * p * o' * w + k * o * m * o' + o * o' * w
    left k p w m o o' = omega arith

    right : (k q o l w o' : ℕ) → k * (q * o + l * w) * o' ≡ k * o * q * o' + k * l * o' * w
    right k q o l w o' = omega arith

    go :
        {X Z : ℕ} (a b c d e f g : ℕ) → a + b + c ≤ d + e → d + f < g + b → X ≡ a + f + c → Z ≡ g + e → X < Z
    go a b c d e f g i j s t = omega arith

-- x + 1/k < y ≤ Y + 1/k
last_chain :
    (k p l o q m w P M O : ℕ) → 0 < O → k * (p * w + m * o) + o * w < k * (q * o + l * w) → k * (q * O + M * w) ≤ k * (P * w + m * O) + 1 *
    (O * w)
    → M * o + p * O < P * o + l * O
last_chain k p l o q m w P M O pO h g =
    lt_of_mul-lt-mul_right (k * w)
    (go (k * p * w * O) (k * m * o * O) (o * w * O) (k * q * o * O) (k * l * w * O) (k * M * w * o) (k * P * w * o)
    (one k p w m o q l O (mul-lt-mul_of_pos_right h pO)) (two k q O M w P m o (mul-le-mul_right o g))
    (left M o p O k w) (left P o l O k w))
  where
    one :
        (k p w m o q l O : ℕ) → (k * (p * w + m * o) + o * w) * O < k * (q * o + l * w) * O
        → k * p * w * O + k * m * o * O + o * w * O < k * q * o * O + k * l * w * O
    one k p w m o q l O h = omega arith

    two :
        (k q O M w P m o : ℕ) → k * (q * O + M * w) * o ≤ (k * (P * w + m * O) + 1 * (O * w)) * o
        → k * q * o * O + k * M * w * o ≤ k * P * w * o + k * m * o * O + o * w * O
    two k q O M w P m o h = omega arith

    left : (M o p O k w : ℕ) → (M * o + p * O) * (k * w) ≡ k * M * w * o + k * p * w * O
    left M o p O k w = omega arith

    go :
        {X Z : ℕ} (a b c d e f g : ℕ) → a + b + c < d + e → d + f ≤ g + b + c → X ≡ f + a → Z ≡ g + e → X < Z
    go a b c d e f g i j s t = omega arith

-- y < x' and x' + 1/k ≤ x: the first chain of -x, -x', -y
first_chain_down :
    (k p l o p' l' o' q m w : ℕ) → 0 < k → 0 < o → 0 < w → k * (p' * o + l * o') + 1 * (o' * o) ≤ k * (p * o' + l' * o)
    → q * o' + l' * w < p' * w + m * o'
    → k * (l * w + q * o) + o * w < k * (m * o + p * w)
first_chain_down k p l o p' l' o' q m w pk po pw h g =
    first_chain k l p o l' p' o' m q w pk po pw (turned k p l o p' l' o' h) (swapped g)
  where
    turned :
        (k p l o p' l' o' : ℕ) → k * (p' * o + l * o') + 1 * (o' * o) ≤ k * (p * o' + l' * o)
        → k * (l * o' + p' * o) + 1 * (o * o') ≤ k * (l' * o + p * o')
    turned k p l o p' l' o' h = omega arith

    swapped : q * o' + l' * w < p' * w + m * o' → l' * w + q * o' < m * o' + p' * w
    swapped g = omega arith

-- ---- a part in n

rest-pos : 0 < rest
unfolding rest
rest-pos = lit< tt

coarser : (k K E A B C : ℕ) → 0 < E → 0 < K → K ≤ k * E → K * A + E * B ≤ K * C → k * A + 1 * B ≤ k * C
coarser k K E A B C pE pK l h = over (le_dest (le_of_mul-le-mul_left {k = K} (le_trans (le-add_right _ _) h) pK))
  where
    over : (D : ℕ) × (A + D ≡ C) → k * A + 1 * B ≤ k * C
    over (D, e) = subst (λ (z : ℕ). k * A + 1 * B ≤ k * z) e (last k A B D (le_of_mul-le-mul_left {k = E} few pE))
      where
        last : (k A B D : ℕ) → B ≤ k * D → k * A + 1 * B ≤ k * (A + D)
        last k A B D h = omega arith

        some : E * B ≤ K * D
        some = go K A D E B (subst (λ (z : ℕ). K * A + E * B ≤ K * z) (sym e) h)
          where
            go : (K A D E B : ℕ) → K * A + E * B ≤ K * (A + D) → E * B ≤ K * D
            go K A D E B h = omega arith

        few : E * B ≤ E * (k * D)
        few = le_trans some (le_trans (mul-le-mul_right D l) (le_of_eq (go k E D)))
          where
            go : (k E D : ℕ) → k * E * D ≡ E * (k * D)
            go k E D = omega arith

-- 1/k is at most 1/(n + 1), less a part in 3^80
pub record Finer (n k : ℕ) : Type 0 where
  pub some : 0 < n
  pub parts-some : 0 < k
  pub enough : suc rest * (n + 1) ≤ k * rest

module _ (n k : ℕ) (fine : Finer n k) where
  and_one_pos : (c : ℕ) → 0 < c → 0 < c * n + c
  and_one_pos c h = omega arith

  -- L(x·(1 + 1/n)) is at least L(x) + 1/k
  L-up : (c d : ℕ) → 0 < c → 0 < d → RisesBy k 1 (lOf (c * n) d) (lOf (c * n + c) d)
  L-up c d pc pd =
      coarser k (suc rest * (c * n + c)) (rest * c) _ _ _ (mul-pos rest-pos pc)
      (mul-pos {m = suc rest} (omega arith) (and_one_pos c pc)) (shaped rest c (mul-le-mul_right c fine.enough))
      (L-rises (c * n) c d (mul-pos pc fine.some) pd small)
    where
      small : c ≤ c * n
      small = le_trans (le_of_eq (sym (mul-one c))) (mul-le-mul_left c fine.some)

      shaped : (r c : ℕ) → suc r * (n + 1) * c ≤ k * r * c → suc r * (c * n + c) ≤ k * (r * c)
      shaped r c h = omega arith

-- ---- the law

module _ (n k : ℕ) (fine : Finer n k)
    (s : Bool) (a b : ℕ) (j : ℤ) (p c d : ℕ) (pb : 0 < b) (pc : 0 < c) (pd : 0 < d) (h : Parted s a b j p) (Y : Signed)
    (pY : 0 < Y.over) where
  abbrev y : Signed
  y = signed s a b

  -- E(y), its two parts
  abbrev e : ℕ
  e = up j * sum_num p (third_den * b)

  abbrev F : ℕ
  F = down j * sum_den (third_den * b)

  pcn : 0 < c * n
  pcn = mul-pos pc fine.some

  more_pos : 0 < c * n + c
  more_pos = and_one_pos n k fine c pc

  pub above-L : AtMostBy k 1 Y y → (c * n + c) * F < e * (d * n) → AboveZero (minus Y (lOf c d))
  above-L near far =
      last_chain k (lOf c d).plus (lOf c d).less (lOf c d).over y.plus y.less b Y.plus Y.less Y.over pY
      (first_chain k (lOf c d).plus (lOf c d).less (lOf c d).over x'.plus x'.less x'.over y.plus y.less b
      fine.parts-some (over_pos_of c d pd) pb
      (rise_moves k 1 (over_pos_of (c * n) (d * n) pdn) (over_pos_of (c * n + c) (d * n) pdn)
      (L-of_equal (c * n) (d * n) c d pcn pdn pc pd (scaled c d)) (refl_same x') (L-up n k fine c (d * n) pc pdn))
      (lt_of_not-le (λ (i : NotAbove y x'). lt_irrefl (e * (d * n))
      (le_lt (E-not_above s a b j p (c * n + c) (d * n) pb more_pos pdn h i) far))))
      near
    where
      x' : Signed
      x' = lOf (c * n + c) (d * n)

      pdn : 0 < d * n
      pdn = mul-pos pd fine.some

      scaled : (c d : ℕ) → c * n * d ≡ c * (d * n)
      scaled c d = omega arith

      refl_same : (x : Signed) → Same x x
      refl_same x = record { crosswise = refl }

      le_lt : {x y : ℕ} → x ≤ y → y < x → x < x
      le_lt h k = omega arith

  pub below-L : AtMostBy k 1 y Y → suc parts * (e * (d * n + d)) < parts * (c * n * F) → BelowZero (minus Y (lOf c d))
  below-L near far =
      last_chain k (lOf c d).less (lOf c d).plus (lOf c d).over y.less y.plus b Y.less Y.plus Y.over pY
      (first_chain_down k (lOf c d).plus (lOf c d).less (lOf c d).over x'.plus x'.less x'.over y.plus y.less b
      fine.parts-some (over_pos_of c d pd) pb
      (rise_moves k 1 (over_pos_of (c * n) d' pd') (over_pos_of (c * n + c) d' pd')
      (refl_same x') (L-of_equal (c * n + c) d' c d more_pos pd' pc pd (scaled c d)) (L-up n k fine c d' pc pd'))
      (lt_of_not-le (λ (i : NotAbove x' y). lt_irrefl (parts * (c * n * F))
      (le_lt (E-not_below s a b j p (c * n) d' pb pcn pd' h i) far))))
      (turned Y.plus Y.less Y.over y.plus y.less b near)
    where
      d' : ℕ
      d' = d * n + d

      x' : Signed
      x' = lOf (c * n) d'

      pd' : 0 < d * n + d
      pd' = and_one_pos n k fine d pd

      scaled : (c d : ℕ) → (c * n + c) * d ≡ c * (d * n + d)
      scaled c d = omega arith

      refl_same : (x : Signed) → Same x x
      refl_same x = record { crosswise = refl }

      le_lt : {x y : ℕ} → x ≤ y → y < x → x < x
      le_lt h k = omega arith

      turned :
          (P M O q m w : ℕ) → k * (P * w + m * O) ≤ k * (q * O + M * w) + 1 * (w * O)
          → k * (m * O + P * w) ≤ k * (M * w + q * O) + 1 * (O * w)
      turned P M O q m w h = omega arith
