-- The test of both power cones, e - q against part·(e + q) with e the exponential of y: a residue beyond its margin tells the sign of
-- Y - L(Q), where y is near Y and q near Q = c/U². For every part that leaves room for the errors of y. Assumes nothing.
-- Where y is between -708 and 709, that the exponential and L undo one another (exponential's inverse/Decision); above it e is infinite and
-- nothing is told; below it e is 0 and L(Q) is far above.
use mathlib.Core.Path.{◌≡◌, refl, sym, subst}
use mathlib.Core.Bool.{Bool, true, false, cond}
use mathlib.Core.Logic.{◌⊎◌, inl, inr}
use Prim.Native.Nat.{ℕ, suc, ◌+◌, ◌*◌, ◌^◌, ◌≤◌, ◌<◌}
use native.Mathlib.Nat.{le_trans, le_of_eq, mul-pos, mul-le-mul_left, mul-le-mul_right, le_of_mul-le-mul_right, le_of_mul-le-mul_left}
use native.Mathlib.Nat.{le-add_left, one-le-pow, eq-zero-or-pos, add_comm, lt_of_mul-lt-mul_right}
use native.Mathlib.Omega.{arith}
use lib.Dec.{T, eqb, lit≤, lit<}
use lib.Count.{count_trailing_zeros}
use lib.Pow.{pow_pos}
use lib.Ieee.{Float, nan, inf, fin, binary64, fits, of_bits, of_fields, odd, up, down, neg, add, sub, mul, lt, size, span, climb}
use lib.Ieee.Fits.{down_pos}
use Rattle.arith.proofs.Branches.{false_not_true}
use Rattle.double.specs.Operators.{◌⊕◌, ◌⊖◌, ◌≺◌}
use Rattle.double.specs.Numbers.{#0, #708, #709}
use Rattle.double.specs.Fields.{Sized, Units}
use Rattle.double.proofs.Fields.{measured, finite_of_value}
use Rattle.rounding.specs.Within.{Within}
use Rattle.rounding.specs.errors.Errors.{above, below}
use Rattle.rounding.proofs.errors.Multiplied.{Multiplied, mul_near}
use Rattle.rounding.proofs.errors.Added.{Added, sub_near, Totalled, total_near, neg_units}
use Rattle.rounding.proofs.errors.Ordered.{lt_units}
use Rattle.series.specs.Series.{Signed, lOf, lAt, rise, fall, s_num, s_den, term, odd_product, sum}
use Rattle.series.proofs.SignedFractions.{over_pos_of}
use Rattle.series.specs.change.Distances.{AtMostBy}
use Rattle.series.proofs.change.LSizes.{fall-most}
use Rattle.certain.proofs.power.LogSizes.{third-most}
use Rattle.series.specs.change.SignedArithmetic.{minus, AboveZero, BelowZero}
use Rattle.exponential.specs.Sum.{third_den, sum_num, sum_den}
use Rattle.exponential.specs.Steps.{exp_of}
use Rattle.exponential.specs.Bound as exponential
use Rattle.exponential.proofs.Bound.{promise}
use Rattle.exponential.proofs.Ends.{most_709}
use Rattle.exponential.proofs.Cases.{number_of_class}
use Rattle.exponential.specs.inverse.Inverse.{NotAbove, signed, parts}
use Rattle.exponential.proofs.inverse.Sums.{factorial-pos}
use Rattle.exponential.proofs.inverse.Inverse.{E-not_above}
use Rattle.exponential.proofs.inverse.SFromBelow.{rest}
use Rattle.exponential.proofs.inverse.Decision.{Finer, above-L, below-L}
use Rattle.cone.specs.verdict.Margins.{margin_of}
use Rattle.certain.proofs.power.Margins.{Counted}
use Rattle.certain.proofs.ExactCoordinates.{in_units}
use Rattle.certain.proofs.OneOperation.{sum-most}
use Rattle.certain.proofs.power.Distances.{Near, one-part}
use Rattle.certain.proofs.power.Terms.{Term}
use Rattle.certain.proofs.power.Ratios.{beyond, exactly_above, exactly_below}

abbrev U : ℕ
U = 2 ^ 1074

-- q is near c/U², which is 0 or from 2^-1000 on
pub record Squared (q : Float) (c : ℕ) : Type 0 where
  pub units : ℕ
  pub is : Units q units
  pub near : Within (2 ^ 45 * (units * U)) (2 ^ 45 * c) c
  pub least : 0 < c → 2 ^ 74 * U ≤ c
  pub most : units ≤ 2 ^ 1010 * U

-- ---- the room

rest_large : 2 ^ 40 ≤ rest
unfolding rest
rest_large = lit≤ tt

parts_large : 2 ^ 40 ≤ parts
unfolding parts
parts_large = lit≤ tt

-- 1/(9n + 2) is a part in 3^80 less than 1/(9n + 1)
finer : (n : ℕ) → 0 < n → n ≤ 2 ^ 31 → Finer (9 * n) (9 * n + 2)
finer n p few = record { some = nine n p; parts-some = more n; enough = shape n rest (le_trans (small n few) rest_large) }
  where
    nine : (n : ℕ) → 0 < n → 0 < 9 * n
    nine n p = omega arith

    more : (n : ℕ) → 0 < 9 * n + 2
    more n = omega arith

    small : (n : ℕ) → n ≤ 2 ^ 31 → 9 * n + 1 ≤ 2 ^ 40
    small n h = omega arith

    shape : (n r : ℕ) → 9 * n + 1 ≤ r → suc r * (9 * n + 1) ≤ (9 * n + 2) * r
    shape n r h = omega arith

-- ---- the margin

room_shape : (P t s M U : ℕ) → 1 ≤ M → 0 < M * U → 3 * P ≤ U → s ≤ M * U → t ≤ 2 * s + 1 → P * t ≤ M * (U * U)
room_shape P t s M U one some third h l =
    le_trans (mul-le-mul_left P (few t s (M * U) l h some))
    (le_trans (le_of_eq (regrouped P (M * U))) (le_trans (mul-le-mul_right (M * U) third) (le_of_eq (turned M U))))
  where
    few : (t s z : ℕ) → t ≤ 2 * s + 1 → s ≤ z → 0 < z → t ≤ 3 * z
    few t s z a b c = omega arith

    regrouped : (P z : ℕ) → P * (3 * z) ≡ 3 * P * z
    regrouped P z = omega arith

    turned : (M U : ℕ) → U * (M * U) ≡ M * (U * U)
    turned M U = omega arith

-- ---- finite e

-- u/64 under the room of 2^1023, and what is added
module _
    {errors : ℕ} (f : Float) (F : Counted errors f) (e q : Float) (u v : ℕ) (is-e : Units e u) (is-q : Units q v)
    (room : u + v ≤ 2 ^ 1023 * U) where
  abbrev part : ℕ
  part = F.units

  residue : Added binary64 (e ⊖ q) false u true v
  residue = sub_near binary64 e q false false u v is-e is-q room

  total : Totalled binary64 (e ⊕ q) (u + v)
  total = total_near binary64 e q u v is-e is-q room

  margin-room : part * total.units ≤ 2 ^ 1023 * (U * U)
  margin-room = room_shape part total.units (u + v) (2 ^ 1023) U (lit≤ tt) (mul-pos (pow_pos 1023) (pow_pos 1074)) F.third room
      (sum-most total.units (u + v) total.near.not-above)

  margin : Multiplied binary64 (margin_of f e q) false part total.units
  margin = mul_near binary64 f (e ⊕ q) false false part total.units F.is total.is margin-room

  pub above-margin : 2 ^ 60 ≤ u + v → T (margin_of f e q ≺ (e ⊖ q)) → (128 * F.n + 15) * v ≤ 128 * F.n * u
  above-margin large t =
      beyond F.n (above residue.sign residue.units) (below residue.sign residue.units) u v total.units
      margin.units part U F.n-some F.n_few F.some
      F.least large (residue_form _ _ residue.near.not-above) total.near.not-below margin.near.not-below
      (test _ _ _ (lt_units binary64 (margin_of f e q) (e ⊖ q) false residue.sign margin.units residue.units margin.is
      residue.is t))
    where
      residue_form :
          (p q : ℕ) → 2 ^ 53 * (p + (0 + v)) ≤ 2 ^ 53 * (q + (u + 0)) + (u + v + 2 ^ 52)
          → 2 ^ 53 * (p + v) ≤ 2 ^ 53 * (q + u) + (u + v + 2 ^ 52)
      residue_form p q h = omega arith

      test : (g p q : ℕ) → g + q < p + 0 → g + q < p
      test g p q h = omega arith

  module _ (t : T ((e ⊖ q) ≺ neg (margin_of f e q))) where
    abbrev rp : ℕ
    rp = above residue.sign residue.units

    abbrev rm : ℕ
    rm = below residue.sign residue.units

    beyond_test : margin.units + rp < rm
    beyond_test =
        go margin.units rp rm
        (lt_units binary64 (e ⊖ q) (neg (margin_of f e q)) residue.sign true residue.units margin.units residue.is
        (neg_units binary64 (margin_of f e q) false margin.units margin.is) t)
      where
        go : (g p q : ℕ) → p + g < 0 + q → g + p < q
        go g p q h = omega arith

    turned : 2 ^ 53 * (rm + u) ≤ 2 ^ 53 * (rp + v) + (v + u + 2 ^ 52)
    turned = go rp rm residue.near.not-below
      where
        go :
            (p q : ℕ) → 2 ^ 53 * (q + (u + 0)) ≤ 2 ^ 53 * (p + (0 + v)) + (u + v + 2 ^ 52)
            → 2 ^ 53 * (q + u) ≤ 2 ^ 53 * (p + v) + (v + u + 2 ^ 52)
        go p q h = omega arith

    pub some_square : 0 < v
    some_square = go rp rm margin.units turned beyond_test
      where
        go : (p q g : ℕ) → 2 ^ 53 * (q + u) ≤ 2 ^ 53 * (p + v) + (v + u + 2 ^ 52) → g + p < q → 0 < v
        go p q g h l = omega arith

    pub below-margin : 2 ^ 60 ≤ u + v → (128 * F.n + 15) * u ≤ 128 * F.n * v
    below-margin large =
        beyond F.n rm rp v u total.units margin.units part U F.n-some F.n_few F.some F.least
        (le_trans large (le_of_eq (add_comm u v))) turned
        (subst (λ (z : ℕ). z * 2 ^ 53 ≤ total.units * 2 ^ 53 + (z + 2 ^ 52)) (add_comm u v) total.near.not-below)
        margin.near.not-below
        beyond_test

-- ---- infinite e: nothing is told

told_nothing : (none : Bool) → T (lt (cond none nan (inf false)) (inf false)) → ⊥
unfolding lt
told_nothing true t = t
told_nothing false t = t

told_nothing_below : (none : Bool) → T (lt (inf false) (neg (cond none nan (inf false)))) → ⊥
unfolding lt neg
told_nothing_below true t = t
told_nothing_below false t = t

pub untold_above :
    {errors : ℕ} (f : Float) → Counted errors f → (q : Float) (v : ℕ) → Units q v → T (margin_of f (inf false) q ≺ (inf false ⊖ q)) → ⊥
unfolding add sub mul
untold_above nan F q v h t = absurd F.is
untold_above (inf s) F q v h t = absurd F.is
untold_above (fin true m e) F q v h t = absurd (false_not_true (sym F.is.0))
untold_above (fin false m e) F nan v h t = absurd h
untold_above (fin false m e) F (inf s) v h t = absurd h
untold_above (fin false m e) F (fin s n d) v h t = told_nothing (eqb m 0) t

pub untold_below :
    {errors : ℕ} (f : Float) → Counted errors f → (q : Float) (v : ℕ) → Units q v → T ((inf false ⊖ q) ≺ neg (margin_of f (inf false) q)) → ⊥
unfolding add sub mul
untold_below nan F q v h t = absurd F.is
untold_below (inf s) F q v h t = absurd F.is
untold_below (fin true m e) F q v h t = absurd (false_not_true (sym F.is.0))
untold_below (fin false m e) F nan v h t = absurd h
untold_below (fin false m e) F (inf s) v h t = absurd h
untold_below (fin false m e) F (fin s n d) v h t = told_nothing_below (eqb m 0) t

-- ---- L of the largest e, and of the smallest Q

-- 63/64 of 2^1023
abbrev top : ℕ
top = 63 * 2 ^ 1017

L-of_top : (709 * (lOf top 1).over ≤ (lOf top 1).plus) × ((lOf top 1).less ≡ 0)
unfolding lOf lAt rise fall size span climb s_num s_den sum term odd_product
L-of_top = (lit≤ tt, refl)

-- L(x) is at least -700 for x from 2^-1000 on
L-least : (c d : ℕ) → 0 < c → d ≤ 2 ^ 1000 * c → (lOf c d).less ≤ 700 * (lOf c d).over
unfolding lOf lAt
L-least c d pc h = shape (fall c d) (s_num 1 3) (s_den 3) _ (fall-most c d 1000 pc h) third-most
  where
    shape : (f N D S : ℕ) → f ≤ 1000 → 10 * N ≤ 7 * D → f * (N * S) ≤ 700 * (D * S)
    shape f N D S h g = le_trans (mul-le-mul_right (N * S) h) (go (mul-le-mul_right (100 * S) g))
      where
        go : 10 * N * (100 * S) ≤ 7 * D * (100 * S) → 1000 * (N * S) ≤ 700 * (D * S)
        go i = omega arith

-- ---- y is near Y

pub zero-units : Units #0 0
unfolding of_bits of_fields odd count_trailing_zeros
zero-units = (refl, refl)

minus_708 : Sized (neg #708) true (708 * U)
unfolding neg of_bits of_fields odd count_trailing_zeros
minus_708 = (refl, refl)

third-pos : 0 < third_den
unfolding third_den
third-pos = lit< tt

half_of : (c x : ℕ) → 2 ^ 45 * c ≤ 2 ^ 45 * x + c → c ≤ 2 * x
half_of c x h = omega arith

sixty : (c x w : ℕ) → 2 ^ 74 * w ≤ c → c ≤ 2 * x → 2 ^ 60 * w ≤ x
sixty c x w l h = omega arith

large_square : (c v w : ℕ) → 0 < w → 2 ^ 74 * w ≤ c → 2 ^ 45 * c ≤ 2 ^ 45 * (v * w) + c → 2 ^ 60 ≤ v
large_square c v w pw l h = le_of_mul-le-mul_right {k = w} (sixty c (v * w) w l (half_of c (v * w) h)) pw

-- Y at most y + 1/k, and y below -708
far_first :
    (k P M O n w : ℕ) → 0 < k → 0 < w → 0 < O → suc (708 * w) * O ≤ n * O → k * (P * w + n * O) ≤ k * (0 * O + M * w) + 1 * (w * O)
    → (P + 706 * O) * w < M * w
far_first k P M O n w pk pw pO i j =
    go (P * w) (w * O) (n * O) (M * w) _ (mul-pos pw pO) (one i)
    (le_of_mul-le-mul_left {k = k} (two k (P * w + n * O) (M * w) (w * O) j (mul-le-mul_right (w * O) pk)) pk) (three P O w)
  where
    one : suc (708 * w) * O ≤ n * O → 708 * (w * O) ≤ n * O
    one i = omega arith

    two : (k x y z : ℕ) → k * x ≤ k * (0 * O + y) + 1 * z → 1 * z ≤ k * z → k * x ≤ k * (y + z)
    two k x y z h l = omega arith

    three : (P O w : ℕ) → (P + 706 * O) * w ≡ P * w + 706 * (w * O)
    three P O w = omega arith

    go : (x z a b y : ℕ) → 0 < z → 708 * z ≤ a → x + a ≤ b + z → y ≡ x + 706 * z → y < b
    go x z a b y p i j e = omega arith

far_last : (P M O p l o : ℕ) → 0 < o → P + 706 * O < M → l * O ≤ 700 * o * O → P * o + l * O < M * o + p * O
far_last P M O p l o po i j = omega (arith, mul-le-mul_right o i)

module _
    {errors : ℕ} (f : Float) (F : Counted errors f) (y : Float) (Y : Signed) (E : ℕ) (fit : T (fits binary64 y)) (pY : 0 < Y.over)
    (t : Term y Y E) (few : E ≤ errors * U) where
  abbrev s : Bool
  s = t.sign

  abbrev n : ℕ
  n = t.units

  -- the exact numbers are apart by a part in `apart`, Y and y are at most 1/fine apart
  abbrev apart : ℕ
  apart = 9 * F.n

  abbrev fine : ℕ
  fine = 9 * F.n + 2

  near : Near fine 1 Y (in_units s n)
  near = one-part (2 ^ 52 * U) E fine (mul-pos (pow_pos 52) (pow_pos 1074)) (room_in E errors fine U few F.room) t.near
    where
      room_in : (E e k z : ℕ) → E ≤ e * z → e * k ≤ 2 ^ 52 → E * k ≤ 2 ^ 52 * z
      room_in E e k z h l = le_trans (mul-le-mul_right k h) (le_trans (le_of_eq (regrouped e z k)) (mul-le-mul_right z l))
        where
          regrouped : (e z k : ℕ) → e * z * k ≡ e * k * z
          regrouped e z k = omega arith

  told : Finer apart fine
  told = finer F.n F.n-some F.n_few

  module _ (q : Float) (c : ℕ) (g : Squared q c) where
    abbrev v : ℕ
    v = g.units

    pU2 : 0 < U * U
    pU2 = mul-pos (pow_pos 1074) (pow_pos 1074)

    large : 0 < c → 2 ^ 60 ≤ v
    large pc = large_square c v U (pow_pos 1074) (g.least pc) g.near.not-below

    some : 0 < v → 0 < c
    some pv = go (eq-zero-or-pos c)
      where
        none : (x : ℕ) → c ≡ 0 → 0 < x → 2 ^ 45 * x ≤ 2 ^ 45 * c + c → ⊥
        none x e p h = omega arith

        go : (c ≡ 0) ⊎ (0 < c) → 0 < c
        go (inl e) = absurd (none (v * U) e (mul-pos pv (pow_pos 1074)) g.near.not-above)
        go (inr p) = p

    -- ---- from -708 to 709
    module _ (over : (#709 ≺ y) ≡ false) (under : (y ≺ neg #708) ≡ false) where
      between : exponential.Between y
      between = record {
        holds = fit;
        number = number_of_class y (measured y fit (finite_of_value y s n U t.is)).field;
        not-over = over;
        not-under = under;
      }

      N : exponential.Near s n U (exp_of y)
      N = promise.between y between s n U (pow_pos 1074) t.is

      abbrev u : ℕ
      u = N.units

      abbrev X : ℕ
      X = up N.j * sum_num N.p (third_den * U)

      abbrev Z : ℕ
      Z = down N.j * sum_den (third_den * U)

      pZ : 0 < Z
      pZ = mul-pos (down_pos N.j) (mul-pos factorial-pos (one-le-pow 39 (third_den * U) (mul-pos third-pos (pow_pos 1074))))

      y_most : NotAbove (signed s n U) (lOf top 1)
      y_most = go s t.is
        where
          go : (r : Bool) → Sized y r n → NotAbove (signed r n U) (lOf top 1)
          go false i =
              up_shape n (lOf top 1).plus (lOf top 1).less (lOf top 1).over U L-of_top.0 L-of_top.1 (most_709 y n U i over)
            where
              up_shape : (n p l o U : ℕ) → 709 * o ≤ p → l ≡ 0 → n ≤ 709 * U → n * o + l * U ≤ p * U + 0 * o
              up_shape n p l o U h e m = rw e (shape (n * o) (p * U) (U * o) (first (mul-le-mul_right o m)) (second (mul-le-mul_right U h)))
                where
                  first : n * o ≤ 709 * U * o → n * o ≤ 709 * (U * o)
                  first i = omega arith

                  second : 709 * o * U ≤ p * U → 709 * (U * o) ≤ p * U
                  second i = omega arith

                  shape : (a b z : ℕ) → a ≤ 709 * z → 709 * z ≤ b → a + 0 * U ≤ b + 0 * o
                  shape a b z i j = omega arith
          go true i = down_shape n (lOf top 1).plus (lOf top 1).less (lOf top 1).over U L-of_top.1
            where
              down_shape : (n p l o U : ℕ) → l ≡ 0 → 0 * o + l * U ≤ p * U + n * o
              down_shape n p l o U e = rw e (omega arith)

      u_most : 2 ^ 44 * u ≤ (2 ^ 44 + 1) * (top * U)
      u_most =
          shape u Z X U top pZ (E-not_above s n U N.j N.p top 1 (pow_pos 1074) (lit< tt) (lit< tt) N.parted y_most)
          N.distance.not-above
        where
          shape :
              (u Z X U c : ℕ) → 0 < Z → X * 1 ≤ c * Z → 2 ^ 44 * (u * Z) ≤ 2 ^ 44 * (X * U) + X * U → 2 ^ 44 * u ≤ (2 ^ 44 + 1) * (c * U)
          shape u Z X U c pZ h i = le_of_mul-le-mul_right {k = Z} (go (mul-le-mul_right U h)) pZ
            where
              go : X * 1 * U ≤ c * Z * U → 2 ^ 44 * u * Z ≤ (2 ^ 44 + 1) * (c * U) * Z
              go j = omega arith

      room : u + v ≤ 2 ^ 1023 * U
      room = shape u v (2 ^ 1010 * U) u_most g.most
        where
          shape : (u v m : ℕ) → 2 ^ 44 * u ≤ (2 ^ 44 + 1) * (8064 * m) → v ≤ m → u + v ≤ 8192 * m
          shape u v m h i = omega arith

      between_yes : 0 < c → T (margin_of f (exp_of y) q ≺ (exp_of y ⊖ q)) → AboveZero (minus Y (lOf c (U * U)))
      between_yes pc test =
          above-L apart fine told s n U N.j N.p c (U * U) (pow_pos 1074) pc pU2 N.parted Y pY near.ahead
          (exactly_above F.n c v u U X Z F.n-some F.n_few pc pZ g.near.not-below
          (above-margin f F (exp_of y) q u v N.value g.is room (le_trans (large pc) (le-add_left v u)) test) N.distance.not-above)

      between_no : T ((exp_of y ⊖ q) ≺ neg (margin_of f (exp_of y) q)) → (0 < c) × BelowZero (minus Y (lOf c (U * U)))
      between_no test =
          let pc : 0 < c = some (some_square f F (exp_of y) q u v N.value g.is room test) in (
            pc,
            below-L apart fine told s n U N.j N.p c (U * U) (pow_pos 1074) pc pU2 N.parted Y pY near.behind
                (exactly_below F.n c v u U X Z F.n-some F.n_few parts parts_large pc pZ g.near.not-above
                (below-margin f F (exp_of y) q u v N.value g.is room test (le_trans (large pc) (le-add_left v u)))
                N.distance.not-below),
          )

    -- ---- below -708
    module _ (under : (y ≺ neg #708) ≡ true) where
      nothing : exp_of y ≡ #0
      nothing = promise.below_708 y under

      zero_room : 0 + v ≤ 2 ^ 1023 * U
      zero_room = shape v (2 ^ 1010 * U) g.most
        where
          shape : (v m : ℕ) → v ≤ m → 0 + v ≤ 8192 * m
          shape v m h = omega arith

      under_yes : 0 < c → T (margin_of f (exp_of y) q ≺ (exp_of y ⊖ q)) → ⊥
      under_yes pc test =
          never F.n v (large pc)
          (above-margin f F #0 q 0 v zero-units g.is zero_room (le_trans (large pc) (le-add_left v 0))
          (subst (λ (e : Float). T (margin_of f e q ≺ (e ⊖ q))) nothing test))
        where
          never : (k v : ℕ) → 2 ^ 60 ≤ v → (128 * k + 15) * v ≤ 128 * k * 0 → ⊥
          never k v h i = omega arith

      low : (s ≡ true) × (708 * U < n)
      low = go s t.is
        where
          go : (r : Bool) → Sized y r n → (r ≡ true) × (708 * U < n)
          go true i = (refl, shape n (708 * U) (lt_units binary64 y (neg #708) true true n (708 * U) i minus_708 (subst T (sym under) tt)))
            where
              shape : (n m : ℕ) → 0 + m < 0 + n → m < n
              shape n m h = omega arith
          go false i =
              absurd (shape n (708 * U) (lt_units binary64 y (neg #708) false true n (708 * U) i minus_708 (subst T (sym under) tt)))
            where
              shape : (n m : ℕ) → n + m < 0 + 0 → ⊥
              shape n m h = omega arith

      under_no : T ((exp_of y ⊖ q) ≺ neg (margin_of f (exp_of y) q)) → (0 < c) × BelowZero (minus Y (lOf c (U * U)))
      under_no test =
          let pc : 0 < c =
          some (some_square f F #0 q 0 v zero-units g.is zero_room
          (subst (λ (e : Float). T ((e ⊖ q) ≺ neg (margin_of f e q))) nothing test)) in (
            pc,
            far fine Y.plus Y.less Y.over (lOf c (U * U)).plus (lOf c (U * U)).less (lOf c (U * U)).over n U
                told.parts-some pY (over_pos_of c (U * U) pU2) (pow_pos 1074) low.1
                (subst (λ (r : Bool). AtMostBy fine 1 (in_units r n) Y) low.0 near.behind)
                (L-least c (U * U) pc (least-of c (g.least pc))),
          )
        where
          least-of : (c : ℕ) → 2 ^ 74 * U ≤ c → U * U ≤ 2 ^ 1000 * c
          least-of c h = le_trans (lit≤ tt) (mul-le-mul_left (2 ^ 1000) h)

          far :
              (k P M O p l o n w : ℕ) → 0 < k → 0 < O → 0 < o → 0 < w → 708 * w < n
              → k * (P * w + n * O) ≤ k * (0 * O + M * w) + 1 * (w * O)
              → l ≤ 700 * o → P * o + l * O < M * o + p * O
          far k P M O p l o n w pk pO po pw m h i =
              far_last P M O p l o po (lt_of_mul-lt-mul_right w (far_first k P M O n w pk pw pO (mul-le-mul_right O m) h))
              (mul-le-mul_right O i)

  -- ---- any y

  pub decided_yes :
      (q : Float) (c : ℕ) → Squared q c → 0 < c → T (margin_of f (exp_of y) q ≺ (exp_of y ⊖ q)) → AboveZero (minus Y (lOf c (U * U)))
  decided_yes q c g pc test = go (#709 ≺ y) (y ≺ neg #708) refl refl
    where
      go : (a b : Bool) → (#709 ≺ y) ≡ a → (y ≺ neg #708) ≡ b → AboveZero (minus Y (lOf c (U * U)))
      go true b i j =
          absurd (untold_above f F q g.units g.is (subst (λ (e : Float). T (margin_of f e q ≺ (e ⊖ q))) (promise.above_709 y i) test))
      go false true i j = absurd (under_yes q c g j pc test)
      go false false i j = between_yes q c g i j pc test

  pub decided_no :
      (q : Float) (c : ℕ) → Squared q c → T ((exp_of y ⊖ q) ≺ neg (margin_of f (exp_of y) q)) → (0 < c) × BelowZero (minus Y (lOf c (U * U)))
  decided_no q c g test = go (#709 ≺ y) (y ≺ neg #708) refl refl
    where
      go : (a b : Bool) → (#709 ≺ y) ≡ a → (y ≺ neg #708) ≡ b → (0 < c) × BelowZero (minus Y (lOf c (U * U)))
      go true b i j =
          absurd (untold_below f F q g.units g.is (subst (λ (e : Float). T ((e ⊖ q) ≺ neg (margin_of f e q)))
          (promise.above_709 y i) test))
      go false true i j = under_no q c g j test
      go false false i j = between_no q c g i j test
