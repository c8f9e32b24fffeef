-- The exponential's sum and L undo one another, specs/inverse/Inverse, proved. Assumes nothing.
-- y = j·S(1/3) + r and L(x) = k·S(1/3) + S(t). Where j is k, the walk's law at m; where j is below k, E(y) is at most 2^j·2; where j is
-- above k, at least 2^j.
use Rattle.std.proofs.Common.{◌≡◌, ℕ, suc, ◌+◌, ◌*◌, ◌^◌, ◌<◌, ◌≤◌, Bool, cond, ℤ, sym, refl, ap, ◌∙◌, subst, ap₂, le_trans, le_of_eq, lt_of_lt_of_le, le_of_lt, lt_irrefl, mul-le-mul_right, mul_comm, lt_of_mul-lt-mul_right, mul-le-mul_left, mul-lt-mul_of_pos_right, mul-pos, pow-suc, le_of_mul-le-mul_right, arith, lit<, pow_pos, pow_mono, pow-add}
use native.Mathlib.Nat.{le_dest, one-le-pow}
use native.Mathlib.Decide.{dec_lt}
use lib.Ieee.{up, down}
use Rattle.series.specs.Series.{Signed, Written, s_num, s_den, lAt, lOf, rise, fall}
use Rattle.series.proofs.Terms.{s_den-pos}
use Rattle.series.proofs.Order.{S-of_same}
use Rattle.series.proofs.Written.{written}
use Rattle.exponential.specs.Sum.{factorial, third_num, third_den, sum_num, sum_den}
use Rattle.exponential.specs.Bound.{Parted}
use Rattle.exponential.specs.inverse.Inverse.{NotAbove, signed, parts, Undone}
use Rattle.exponential.proofs.inverse.Sums.{sum_from_one, E-grows}
use Rattle.exponential.proofs.inverse.SFromBelow.{rest, S-from_below}
use Rattle.exponential.proofs.inverse.Walk.{E-of-S-at_most, E-of-S-at_least}
use Rattle.exponential.proofs.inverse.Turns.{Turns, turns}

third_num_lem : third_num ≡ s_num 1 3
unfolding third_num
third_num_lem = refl

third_den_lem : third_den ≡ s_den 3
unfolding third_den
third_den_lem = refl

-- ---- j against k, over plain numbers: N/D is S(1/3), s/w is S(t)

ahead :
    (N D b p P M u f r g s w : ℕ) → P * D + f * (N * b) ≡ u * (N * b) + p + M * D
    → P * (D * w) + g * (N * w) * b ≤ (r * (N * w) + s * D) * b + M * (D * w) → (u + g) * (N * b * w) + p * w
    ≤ (r + f) * (N * b * w) + s * D * b
ahead N D b p P M u f r g s w e h = omega (arith, ap (λ (x : ℕ). x * w) e)

behind :
    (N D b p P M u f r g s w : ℕ) → P * D + f * (N * b) ≡ u * (N * b) + p + M * D
    → (r * (N * w) + s * D) * b + M * (D * w) ≤ P * (D * w) + g * (N * w) * b → (r + f) * (N * b * w) + s * D * b
    ≤ (u + g) * (N * b * w) + p * w
behind N D b p P M u f r g s w e h = omega (arith, ap (λ (x : ℕ). x * w) e)

-- a turn between them is too much
one-turn : (N b Q x y p z : ℕ) → suc x * (N * b * Q) ≤ y * (N * b * Q) → y * (N * b * Q) + p * Q ≤ x * (N * b * Q) + z → N * Q * b ≤ z
one-turn N b Q x y p z h i = omega arith

no_turn : (N b Q x y p z : ℕ) → suc x * (N * b * Q) ≤ y * (N * b * Q) → y * (N * b * Q) + z ≤ x * (N * b * Q) + p * Q → N * b * Q ≤ p * Q
no_turn N b Q x y p z h i = omega arith

-- ---- E(y) against x = c/d with c·2^g·n = m·(d·2^r), over plain numbers: e/F is the sum

module _ (c d m n u f r g e F : ℕ) (pn : 0 < n) (value : c * 2 ^ g * n ≡ m * (d * 2 ^ r)) where
  same_most : u + g ≡ r + f → n * e ≤ m * F → 2 ^ u * e * d ≤ c * (2 ^ f * F)
  same_most k h =
      le_of_mul-le-mul_right {k = 2 ^ r * n}
      (le_trans (le_of_eq (first (2 ^ u) (2 ^ r))) (le_trans (mul-le-mul_left (2 ^ u * 2 ^ r * d) h)
      (le_of_eq (second (2 ^ u) (2 ^ r) (2 ^ f) (2 ^ g) value powers)))) (mul-pos (pow_pos r) pn)
    where
      powers : 2 ^ u * 2 ^ g ≡ 2 ^ r * 2 ^ f
      powers = sym (pow-add 2 u g) ∙ ap (λ (x : ℕ). 2 ^ x) k ∙ pow-add 2 r f

      first : (U R : ℕ) → U * e * d * (R * n) ≡ U * R * d * (n * e)
      first U R = omega arith

      second : (U R G H : ℕ) → c * H * n ≡ m * (d * R) → U * H ≡ R * G → U * R * d * (m * F) ≡ c * (G * F) * (R * n)
      second U R G H i j = omega (arith, ap (λ (x : ℕ). U * F * x) (sym i), ap (λ (x : ℕ). c * n * F * x) j)

  same_least : (k : ℕ) → u + g ≡ r + f → k * (m * F) ≤ suc k * (n * e) → k * (c * (2 ^ f * F)) ≤ suc k * (2 ^ u * e * d)
  same_least k i h =
      le_of_mul-le-mul_right {k = 2 ^ r * n}
      (le_trans (le_of_eq (second (2 ^ u) (2 ^ r) (2 ^ f) (2 ^ g) value powers)) (le_trans (mul-le-mul_left (2 ^ u * 2 ^ r * d) h)
      (le_of_eq (first (2 ^ u) (2 ^ r))))) (mul-pos (pow_pos r) pn)
    where
      powers : 2 ^ u * 2 ^ g ≡ 2 ^ r * 2 ^ f
      powers = sym (pow-add 2 u g) ∙ ap (λ (x : ℕ). 2 ^ x) i ∙ pow-add 2 r f

      first : (U R : ℕ) → U * R * d * (suc k * (n * e)) ≡ suc k * (U * e * d) * (R * n)
      first U R = omega arith

      second : (U R G H : ℕ) → c * H * n ≡ m * (d * R) → U * H ≡ R * G → k * (c * (G * F)) * (R * n) ≡ U * R * d * (k * (m * F))
      second U R G H i j = omega (arith, ap (λ (x : ℕ). k * U * F * x) (sym i), ap (λ (x : ℕ). k * c * n * F * x) j)

  -- x is at least 2^k, and j is below k
  fewer_most : n ≤ m → u + g < r + f → e ≤ 2 * F → 2 ^ u * e * d ≤ c * (2 ^ f * F)
  fewer_most lo k h =
      le_of_mul-le-mul_right {k = 2 ^ g}
      (le_trans (first (2 ^ u) (2 ^ g) (mul-le-mul_left (2 ^ u * d * 2 ^ g) h))
      (le_trans (mul-le-mul_right (d * F) powers) (second (2 ^ r) (2 ^ f) (2 ^ g) (mul-le-mul_right (2 ^ f * F) from)))) (pow_pos g)
    where
      powers : 2 ^ u * 2 ^ g * 2 ≤ 2 ^ r * 2 ^ f
      powers =
          le_trans (le_of_eq (ap (λ (x : ℕ). x * 2) (sym (pow-add 2 u g)) ∙ sym (pow-suc 2 (u + g))))
          (le_trans (pow_mono k) (le_of_eq (pow-add 2 r f)))

      from : d * 2 ^ r ≤ c * 2 ^ g
      from = le_of_mul-le-mul_right {k = n} (le_trans (mul-le-mul_left (d * 2 ^ r) lo) (le_of_eq (mul_comm (d * 2 ^ r) m ∙ sym value))) pn

      first : (U H : ℕ) → U * d * H * e ≤ U * d * H * (2 * F) → U * e * d * H ≤ U * H * 2 * (d * F)
      first U H i = omega arith

      second : (R G H : ℕ) → d * R * (G * F) ≤ c * H * (G * F) → R * G * (d * F) ≤ c * (G * F) * H
      second R G H i = omega arith

  -- x is below 2^(k+1), and j is above k
  more_least : (k : ℕ) → m < 2 * n → r + f < u + g → F ≤ e → k * (c * (2 ^ f * F)) ≤ suc k * (2 ^ u * e * d)
  more_least k hi l h = go k _ _ whole
    where
      go : (k x y : ℕ) → x ≤ y → k * x ≤ suc k * y
      go k x y h = omega (arith, mul-le-mul_left k h)

      powers : 2 ^ r * 2 ^ f * 2 ≤ 2 ^ u * 2 ^ g
      powers =
          le_trans (le_of_eq (ap (λ (x : ℕ). x * 2) (sym (pow-add 2 r f)) ∙ sym (pow-suc 2 (r + f))))
          (le_trans (pow_mono l) (le_of_eq (pow-add 2 u g)))

      upto : c * 2 ^ g ≤ 2 * (d * 2 ^ r)
      upto =
          le_of_mul-le-mul_right {k = n}
          (le_trans (le_of_eq value) (le_trans (mul-le-mul_right (d * 2 ^ r) (le_of_lt hi)) (le_of_eq (turned n (d * 2 ^ r))))) pn
        where
          turned : (n x : ℕ) → 2 * n * x ≡ 2 * x * n
          turned n x = omega arith

      first : (R G H : ℕ) → c * H * (G * F) ≤ 2 * (d * R) * (G * F) → c * (G * F) * H ≤ R * G * 2 * (d * F)
      first R G H i = omega arith

      second : (U H : ℕ) → U * H * d * F ≤ U * H * d * e → U * H * (d * F) ≤ U * e * d * H
      second U H i = omega arith

      whole : c * (2 ^ f * F) ≤ 2 ^ u * e * d
      whole =
          le_of_mul-le-mul_right {k = 2 ^ g}
          (le_trans (first (2 ^ r) (2 ^ f) (2 ^ g) (mul-le-mul_right (2 ^ f * F) upto))
          (le_trans (mul-le-mul_right (d * F) powers) (second (2 ^ u) (2 ^ g) (mul-le-mul_left (2 ^ u * 2 ^ g * d) h)))) (pow_pos g)

-- ---- S(t) is below S(1/3) where t is

strict_shape : (k x y A B C : ℕ) → 0 < k * (x * B) → suc k * (y * A) + k * (x * B) ≤ suc k * (y * C) → A < C
strict_shape k x y A B C pB h = go (dec_lt A C)
  where
    go : Dec (A < C) → A < C
    go (yes l) = l
    go (no l) = absurd (never (mul-le-mul_left (suc k) (mul-le-mul_left y (back A C l))))
      where
        back : (a c : ℕ) → (a < c → ⊥) → c ≤ a
        back a c n = omega arith

        never : suc k * (y * C) ≤ suc k * (y * A) → ⊥
        never i = sums (suc k * (y * A)) (suc k * (y * C)) (k * (x * B)) pB h i
          where
            sums : (a c b : ℕ) → 0 < b → a + b ≤ c → c ≤ a → ⊥
            sums a c b p h i = omega arith

rest-pos : 0 < rest
unfolding rest
rest-pos = lit< tt

S-below_third : (n t : ℕ) → t < n → s_num t (n + n + t) * s_den 3 < s_num 1 3 * s_den (n + n + t)
S-below_third n t l = over (le_dest l)
  where
    over : (x : ℕ) × (suc t + x ≡ n) → s_num t (n + n + t) * s_den 3 < s_num 1 3 * s_den (n + n + t)
    over (x, e) =
        last (s_num t (n + n + t)) (s_den (n + n + t)) (s_num n (n + n + n)) (s_den (n + n + n)) (s_num 1 3) (s_den 3) (s_den-pos 3 (omega arith))
        (S-of_same n (n + n + n) 1 3 (omega arith) (omega arith) (omega arith))
        (strict_shape rest (suc x) (n + t + suc x) _ (s_den (n + n + t) * s_den (n + n + n)) _
        (mul-pos rest-pos (mul-pos (omega arith) (mul-pos (s_den-pos (n + n + t) (omega arith)) (s_den-pos (n + n + n) (omega arith)))))
        (subst
        (λ (z : ℕ). suc rest * ((n + t + suc x) * (s_num t (n + n + t) * s_den (n + n + n))) + rest *
        (suc x * (s_den (n + n + t) * s_den (n + n + n)))
        ≤ suc rest * ((n + t + suc x) * (s_num z (n + n + n) * s_den (n + n + t)))) (third t x e)
        (subst
        (λ (z : ℕ). suc rest * ((n + t + suc x) * (s_num t (n + n + t) * s_den z)) + rest * (suc x * (s_den (n + n + t) * s_den z))
        ≤ suc rest * ((n + t + suc x) * (s_num (t + suc x) z * s_den (n + n + t)))) (three t x e)
        (S-from_below n t (suc x) (omega arith) (le_of_lt l)))))
      where
        third : (t x : ℕ) → suc t + x ≡ n → t + suc x ≡ n
        third t x e = omega arith

        three : (t x : ℕ) → suc t + x ≡ n → n + n + t + suc x ≡ n + n + n
        three t x e = omega arith

        last : (s w M Z N D : ℕ) → 0 < D → M * D ≡ N * Z → s * Z < M * w → s * D < N * w
        last s w M Z N D pD e h = lt_of_mul-lt-mul_right Z (go s w M Z N D e (mul-lt-mul_of_pos_right h pD))
          where
            go : (s w M Z N D : ℕ) → M * D ≡ N * Z → s * Z * D < M * w * D → s * D * Z < N * w * Z
            go s w M Z N D e h = omega (arith, ap (λ (x : ℕ). w * x) e)

-- ---- E(r) is at most 2

E-at_most_two : (p b : ℕ) → 0 < b → p < s_num 1 3 * b → sum_num p (s_den 3 * b) ≤ 2 * sum_den (s_den 3 * b)
E-at_most_two p b pb l =
    le_of_mul-le-mul_right {k = s_den 3 ^ 39}
    (le_trans (E-grows p (s_den 3 * b) (s_num 1 3) (s_den 3) (mul-pos pD pb) pD (crossed (s_num 1 3) (s_den 3) (le_of_lt l)))
    (go (sum_num (s_num 1 3) (s_den 3)) (s_den 3 ^ 39) ((s_den 3 * b) ^ 39) (factorial 39) (E-of-S-at_most 1 1 (lit< tt))))
    (one-le-pow 39 (s_den 3) pD)
  where
    pD : 0 < s_den 3
    pD = s_den-pos 3 (lit< tt)

    crossed : (N D : ℕ) → p ≤ N * b → p * D ≤ N * (D * b)
    crossed N D h = omega (arith, mul-le-mul_right D h)

    go : (e A B F : ℕ) → 1 * e ≤ (1 + 1) * (F * A) → e * B ≤ 2 * (F * B) * A
    go e A B F h = omega (arith, mul-le-mul_right B h)

-- ---- the law, by any k and m of x

module _
    (s : Bool) (a b : ℕ) (j : ℤ) (p c d r g n t : ℕ) (pb : 0 < b) (h : Parted s a b j p) (w : Written c d r g (n + t) n) where
  abbrev q : ℕ
  q = n + n + t

  pn : 0 < n
  pn = go w.below_two
    where
      go : n + t < 2 * n → 0 < n
      go h = omega arith

  small : t < n
  small = go w.below_two
    where
      go : n + t < 2 * n → t < n
      go h = omega arith

  pq : 0 < q
  pq = omega (arith, pn)

  pD : 0 < s_den 3
  pD = s_den-pos 3 (lit< tt)

  abbrev k : Turns s a b j p
  k = turns s a b j p h

  rest_below : p < s_num 1 3 * b
  rest_below = subst (λ (x : ℕ). p < x * b) third_num_lem h.below

  whole : cond s 0 a * s_den 3 + k.f * (s_num 1 3 * b) ≡ k.u * (s_num 1 3 * b) + p + cond s a 0 * s_den 3
  whole =
      subst (λ (x : ℕ). cond s 0 a * s_den 3 + k.f * (x * b) ≡ k.u * (x * b) + p + cond s a 0 * s_den 3) third_num_lem
      (subst (λ (x : ℕ). cond s 0 a * x + k.f * (third_num * b) ≡ k.u * (third_num * b) + p + cond s a 0 * x) third_den_lem k.whole)

  -- L(x) by n and t
  abbrev l : Signed
  l = record {
    plus = r * (s_num 1 3 * s_den q) + s_num t q * s_den 3;
    less = g * (s_num 1 3 * s_den q);
    over = s_den 3 * s_den q;
  }

  abbrev e : ℕ
  e = sum_num p (s_den 3 * b)

  abbrev F : ℕ
  F = sum_den (s_den 3 * b)

  abbrev S : ℕ
  S = s_num t q

  abbrev Q : ℕ
  Q = s_den q

  pQ : 0 < Q
  pQ = s_den-pos q pq

  -- one turn: S(1/3), over D·b·Q
  abbrev turn : ℕ
  turn = s_num 1 3 * b * Q

  module _ (low : NotAbove (signed s a b) l) where
    compared : (k.u + g) * turn + p * Q ≤ (r + k.f) * turn + S * s_den 3 * b
    compared = ahead (s_num 1 3) (s_den 3) b p (cond s 0 a) (cond s a 0) k.u k.f r g S Q whole low

    most_same : k.u + g ≡ r + k.f → n * e ≤ (n + t) * F
    most_same i =
        shape e (sum_num S Q) (Q ^ 39) ((s_den 3 * b) ^ 39) (factorial 39) (n + t) (one-le-pow 39 Q pQ)
        (E-grows p (s_den 3 * b) S Q (mul-pos pD pb) pQ (left turn i compared)) (E-of-S-at_most n t pn)
      where
        left : (T : ℕ) {x y : ℕ} → x ≡ y → x * T + p * Q ≤ y * T + S * s_den 3 * b → p * Q ≤ S * (s_den 3 * b)
        left T {x} {y} i h = go (x * T) (y * T) (ap (λ (z : ℕ). z * T) i) h
          where
            go : (x y : ℕ) → x ≡ y → x + p * Q ≤ y + S * s_den 3 * b → p * Q ≤ S * (s_den 3 * b)
            go x y i h = omega arith

        shape : (e e' A B G m : ℕ) → 0 < A → e * A ≤ e' * B → n * e' ≤ m * (G * A) → n * e ≤ m * (G * B)
        shape e e' A B G m pA i j =
            le_of_mul-le-mul_right {k = A} (go (mul-le-mul_left n i) (mul-le-mul_right B j)) pA
          where
            go : n * (e * A) ≤ n * (e' * B) → n * e' * B ≤ m * (G * A) * B → n * e * A ≤ m * (G * B) * A
            go i j = omega arith

    never_more : r + k.f < k.u + g → ⊥
    never_more i =
        lt_irrefl (S * s_den 3)
        (lt_of_lt_of_le (S-below_third n t small)
        (le_of_mul-le-mul_right {k = b} (one-turn (s_num 1 3) b Q _ _ p _ (mul-le-mul_right turn i) compared) pb))

    not_above_at : 2 ^ k.u * e * d ≤ c * (2 ^ k.f * F)
    not_above_at = go (dec_lt (k.u + g) (r + k.f)) (dec_lt (r + k.f) (k.u + g))
      where
        go : Dec (k.u + g < r + k.f) → Dec (r + k.f < k.u + g) → 2 ^ k.u * e * d ≤ c * (2 ^ k.f * F)
        go (yes i) j = fewer_most c d (n + t) n k.u k.f r g e F pn w.value w.from_one i (E-at_most_two p b pb rest_below)
        go (no i) (yes j) = absurd (never_more j)
        go (no i) (no j) =
            let m : k.u + g ≡ r + k.f = both i j in
            same_most c d (n + t) n k.u k.f r g e F pn w.value m (most_same m)
          where
            both : {x y : ℕ} → (x < y → ⊥) → (y < x → ⊥) → x ≡ y
            both i j = omega arith

  module _ (high : NotAbove l (signed s a b)) where
    compared' : (r + k.f) * turn + S * s_den 3 * b ≤ (k.u + g) * turn + p * Q
    compared' = behind (s_num 1 3) (s_den 3) b p (cond s 0 a) (cond s a 0) k.u k.f r g S Q whole high

    least_same : k.u + g ≡ r + k.f → parts * ((n + t) * F) ≤ suc parts * (n * e)
    least_same i =
        shape e (sum_num S Q) (Q ^ 39) ((s_den 3 * b) ^ 39) (factorial 39) (n + t) parts (one-le-pow 39 Q pQ)
        (E-grows S Q p (s_den 3 * b) pQ (mul-pos pD pb) (left turn (sym i) compared')) (E-of-S-at_least n t pn (le_of_lt small))
      where
        left : (T : ℕ) {x y : ℕ} → x ≡ y → x * T + S * s_den 3 * b ≤ y * T + p * Q → S * (s_den 3 * b) ≤ p * Q
        left T {x} {y} i h = go (x * T) (y * T) (ap (λ (z : ℕ). z * T) i) h
          where
            go : (x y : ℕ) → x ≡ y → x + S * s_den 3 * b ≤ y + p * Q → S * (s_den 3 * b) ≤ p * Q
            go x y i h = omega arith

        shape :
            (e e' A B G m k : ℕ) → 0 < A → e' * B ≤ e * A → k * (m * (G * A)) ≤ suc k * (n * e') → k * (m * (G * B)) ≤ suc k * (n * e)
        shape e e' A B G m k pA i j =
            le_of_mul-le-mul_right {k = A} (go (mul-le-mul_left (suc k * n) i) (mul-le-mul_right B j)) pA
          where
            go :
                suc k * n * (e' * B) ≤ suc k * n * (e * A) → k * (m * (G * A)) * B ≤ suc k * (n * e') * B
                → k * (m * (G * B)) * A ≤ suc k * (n * e) * A
            go i j =
                le_trans (le_of_eq (before k m G A B))
                (le_trans j (le_trans (le_of_eq (middle k e' B)) (le_trans i (le_of_eq (after k e A)))))
              where
                before : (k m G A B : ℕ) → k * (m * (G * B)) * A ≡ k * (m * (G * A)) * B
                before k m G A B = omega arith

                middle : (k e B : ℕ) → suc k * (n * e) * B ≡ suc k * n * (e * B)
                middle k e B = omega arith

                after : (k e A : ℕ) → suc k * n * (e * A) ≡ suc k * (n * e) * A
                after k e A = omega arith

    never_fewer : k.u + g < r + k.f → ⊥
    never_fewer i =
        lt_irrefl p (lt_of_lt_of_le rest_below
        (le_of_mul-le-mul_right {k = Q} (no_turn (s_num 1 3) b Q _ _ p _ (mul-le-mul_right turn i) compared') pQ))

    not_below_at : parts * (c * (2 ^ k.f * F)) ≤ suc parts * (2 ^ k.u * e * d)
    not_below_at = go (dec_lt (k.u + g) (r + k.f)) (dec_lt (r + k.f) (k.u + g))
      where
        go : Dec (k.u + g < r + k.f) → Dec (r + k.f < k.u + g) → parts * (c * (2 ^ k.f * F)) ≤ suc parts * (2 ^ k.u * e * d)
        go (yes i) j = absurd (never_fewer i)
        go (no i) (yes j) =
            more_least c d (n + t) n k.u k.f r g e F pn w.value parts w.below_two j (sum_from_one p (s_den 3 * b))
        go (no i) (no j) =
            let m : k.u + g ≡ r + k.f = both i j in
            same_least c d (n + t) n k.u k.f r g e F pn w.value parts m (least_same m)
          where
            both : {x y : ℕ} → (x < y → ⊥) → (y < x → ⊥) → x ≡ y
            both i j = omega arith

-- ---- the law

as_l_at : (r g n t : ℕ) → lAt r g (n + t) n ≡ record {
  plus = r * (s_num 1 3 * s_den (n + n + t)) + s_num t (n + n + t) * s_den 3;
  less = g * (s_num 1 3 * s_den (n + n + t));
  over = s_den 3 * s_den (n + n + t);
}
unfolding lAt
as_l_at r g n t =
    ap₂ (λ (x y : ℕ). record { plus = r * (s_num 1 3 * s_den y) + s_num x y * s_den 3; less = g * (s_num 1 3 * s_den y); over = s_den 3 * s_den y })
    (omega arith) (omega arith)

module _ (s : Bool) (a b : ℕ) (j : ℤ) (p c d : ℕ) (pb : 0 < b) (pc : 0 < c) (pd : 0 < d) (h : Parted s a b j p) where
  own : Written c d (rise c d) (fall c d) (c * 2 ^ fall c d) (d * 2 ^ rise c d)
  own = written c d pc pd

  abbrev n : ℕ
  n = d * 2 ^ rise c d

  module _ (t : ℕ) (is : n + t ≡ c * 2 ^ fall c d) where
    w : Written c d (rise c d) (fall c d) (n + t) n
    w = rw is own

    L-is : lOf c d ≡ l s a b j p c d (rise c d) (fall c d) n t pb h w
    unfolding lOf
    L-is = ap (λ (m : ℕ). lAt (rise c d) (fall c d) m n) (sym is) ∙ as_l_at (rise c d) (fall c d) n t

    abbrev k' : Turns s a b j p
    k' = turns s a b j p h

    at_most : NotAbove (signed s a b) (lOf c d) → up j * sum_num p (third_den * b) * d ≤ c * (down j * sum_den (third_den * b))
    at_most i =
        rw (k'.up_is, k'.down_is, third_den_lem)
        (not_above_at s a b j p c d (rise c d) (fall c d) n t pb h w (subst (λ (x : Signed). NotAbove (signed s a b) x) L-is i))

    at_least :
        NotAbove (lOf c d) (signed s a b) → parts * (c * (down j * sum_den (third_den * b)))
        ≤ suc parts * (up j * sum_num p (third_den * b) * d)
    at_least i =
        rw (k'.up_is, k'.down_is, third_den_lem)
        (not_below_at s a b j p c d (rise c d) (fall c d) n t pb h w (subst (λ (x : Signed). NotAbove x (signed s a b)) L-is i))

  pub E-not_above : NotAbove (signed s a b) (lOf c d) → up j * sum_num p (third_den * b) * d ≤ c * (down j * sum_den (third_den * b))
  E-not_above i = go (le_dest own.from_one)
    where
      go : (t : ℕ) × (n + t ≡ c * 2 ^ fall c d) → up j * sum_num p (third_den * b) * d ≤ c * (down j * sum_den (third_den * b))
      go (t, e) = at_most t e i

  pub E-not_below :
      NotAbove (lOf c d) (signed s a b) → parts * (c * (down j * sum_den (third_den * b))) ≤ suc parts * (up j * sum_num p (third_den * b) * d)
  E-not_below i = go (le_dest own.from_one)
    where
      go :
          (t : ℕ) × (n + t ≡ c * 2 ^ fall c d)
          → parts * (c * (down j * sum_den (third_den * b))) ≤ suc parts * (up j * sum_num p (third_den * b) * d)
      go (t, e) = at_least t e i

pub undone : Undone
undone = record { not-above = E-not_above; not-below = E-not_below }
