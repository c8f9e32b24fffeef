-- The exponential is within 2^-44 of document 01's sum, for every double from -708 to 709. Assumes nothing.
-- The place k of Places becomes j = k - 1024, its rest p the rest of x, and the rounded sum the answer's digits.
use Rattle.std.proofs.Common.{◌≡◌, ℕ, suc, ◌+◌, ◌-◌, ◌*◌, ◌/◌, ◌^◌, ◌<◌, ◌≤◌, Bool, true, false, cond, T, ℤ, pos, negsuc, ◌+ℤ◌, ◌*ℤ◌, neg_ℤ, sym, ap, ◌∙◌, subst, mul-le-mul_right, mul_assoc, add-mul, one-mul, lt_of_not-le, sub-add_cancel, le_of_mul-le-mul_right, arith, lit<, pow-add, le-leb}
use native.Mathlib.Decide.{dec_le}
use borrow.Author.Tests.{lt-leb}
use lib.IntN.{pos-+ℤ-pos, pos-*ℤ-pos, negsuc-*ℤ-pos, neg_ℤ-+ℤ, +ℤ_assoc, +ℤ_invl, +ℤ_idr}
use lib.Ieee.{Float, up, down, minus}
use lib.Ieee.Exact.{HasValue}
use Rattle.double.proofs.Made.{made}
use Rattle.rounding.specs.Within.{Within}
use Rattle.exponential.specs.Sum.{third_num, third_den, sum_num, sum_den}
use Rattle.exponential.specs.Steps.{place_of, raised, rest, horner, composed, exp_at, exp_of}
use Rattle.exponential.specs.Bound.{Parted, Near, Between, Promise}
use Rattle.exponential.proofs.Horner.{horner_below_two, horner_from_one}
use Rattle.exponential.proofs.AsWritten.{last_terms_are_sum}
use Rattle.exponential.proofs.Places.{Fine, Placed, up_found, down_fits, down_found}
use Rattle.exponential.proofs.Ends.{most_709, most_708}
use Rattle.exponential.proofs.Cases.{above_709, below_708, of_nan, of_zero, between}
use Rattle.exponential.proofs.Fractions.{FractionOf, written}

-- ---- k - 1024 as an integer

-- 2^(k - 1024) is 2^k over 2^1024
power-raised : (k : ℕ) → up (minus k 1024) * 2 ^ 1024 ≡ down (minus k 1024) * 2 ^ k
power-raised k = go (dec_le 1024 k)
  where
    back : {k : ℕ} → 1024 ≤ k → k - 1024 + 1024 ≡ k
    back h = omega arith

    forth : {k : ℕ} → k < 1024 → suc (1024 - suc k) + k ≡ 1024
    forth h = omega arith

    go : Dec (1024 ≤ k) → up (minus k 1024) * 2 ^ 1024 ≡ down (minus k 1024) * 2 ^ k
    go (yes h) =
        subst (λ (b : Bool). up (cond b (pos (k - 1024)) (negsuc (1024 - suc k))) * 2 ^ 1024
        ≡ down (cond b (pos (k - 1024)) (negsuc (1024 - suc k))) * 2 ^ k)
        (sym (le-leb 1024 k h)) (sym (pow-add 2 (k - 1024) 1024) ∙ ap (λ (n : ℕ). 2 ^ n) (back h) ∙ sym (one-mul (2 ^ k)))
    go (no h) =
        let l : k < 1024 = lt_of_not-le h in
        subst (λ (b : Bool). up (cond b (pos (k - 1024)) (negsuc (1024 - suc k))) * 2 ^ 1024
        ≡ down (cond b (pos (k - 1024)) (negsuc (1024 - suc k))) * 2 ^ k)
        (sym (lt-leb 1024 k l)) (one-mul (2 ^ 1024) ∙ ap (λ (n : ℕ). 2 ^ n) (sym (forth l)) ∙ pow-add 2 (suc (1024 - suc k)) k)

-- 1024·M plus or less A is k·M + p: then A, with its sign, is (k - 1024)·M + p
module _ (k M p A : ℕ) (below : p < M) where
  times : (n : ℕ) → 1024 ≤ k → k ≡ n + 1024 → k * M ≡ n * M + 1024 * M
  times n h e = ap (λ (x : ℕ). x * M) e ∙ add-mul n 1024 M

  over-home : (n : ℕ) → 1024 * M + A ≡ p + k * M → k * M ≡ n * M + 1024 * M → A ≡ n * M + p
  over-home n e f = go (k * M) (n * M) (1024 * M) e f
    where
      go : (x y z : ℕ) → z + A ≡ p + x → x ≡ y + z → A ≡ y + p
      go x y z e f = omega arith

  up_whole : 1024 * M + A ≡ p + k * M → pos A ≡ minus k 1024 *ℤ pos M +ℤ pos p
  up_whole e = go (dec_le 1024 k)
    where
      back : 1024 ≤ k → k ≡ k - 1024 + 1024
      back h = omega arith

      never : k < 1024 → ⊥
      never l = omega (arith, mul-le-mul_right M l)

      go : Dec (1024 ≤ k) → pos A ≡ minus k 1024 *ℤ pos M +ℤ pos p
      go (yes h) =
          subst (λ (b : Bool). pos A ≡ cond b (pos (k - 1024)) (negsuc (1024 - suc k)) *ℤ pos M +ℤ pos p) (sym (le-leb 1024 k h))
          (ap pos (over-home (k - 1024) e (times (k - 1024) h (back h)))
          ∙ sym (ap (λ (z : ℤ). z +ℤ pos p) (pos-*ℤ-pos (k - 1024) M) ∙ pos-+ℤ-pos ((k - 1024) * M) p))
      go (no h) = absurd (never (lt_of_not-le h))

  -- -(p + A) + p = -A
  less_rest : neg_ℤ (pos A) ≡ neg_ℤ (pos (p + A)) +ℤ pos p
  less_rest =
      sym (ap (λ (z : ℤ). neg_ℤ z +ℤ pos p) (ap pos (add_comm' p A) ∙ sym (pos-+ℤ-pos A p))
      ∙ ap (λ (z : ℤ). z +ℤ pos p) (neg_ℤ-+ℤ (pos A) (pos p))
      ∙ +ℤ_assoc (neg_ℤ (pos A)) (neg_ℤ (pos p)) (pos p) ∙ ap (λ (z : ℤ). neg_ℤ (pos A) +ℤ z) (+ℤ_invl (pos p)) ∙ +ℤ_idr (neg_ℤ (pos A)))
    where
      add_comm' : (x y : ℕ) → x + y ≡ y + x
      add_comm' x y = omega arith

  down_whole : p + k * M + A ≡ 1024 * M → neg_ℤ (pos A) ≡ minus k 1024 *ℤ pos M +ℤ pos p
  down_whole e = go (dec_le 1024 k)
    where
      back : 1024 ≤ k → k ≡ k - 1024 + 1024
      back h = omega arith

      forth : k < 1024 → 1024 ≡ suc (1024 - suc k) + k
      forth l = omega arith

      none : (x y z : ℕ) → p + x + A ≡ z → x ≡ y + z → (A ≡ 0) × (0 ≡ y + p)
      none x y z e f = (omega arith, omega arith)

      part : (x y z : ℕ) → p + x + A ≡ z → z ≡ y + x → y ≡ p + A
      part x y z e f = omega arith

      go : Dec (1024 ≤ k) → neg_ℤ (pos A) ≡ minus k 1024 *ℤ pos M +ℤ pos p
      go (yes h) =
          let z = none (k * M) ((k - 1024) * M) (1024 * M) e (times (k - 1024) h (back h)) in
          subst (λ (b : Bool). neg_ℤ (pos A) ≡ cond b (pos (k - 1024)) (negsuc (1024 - suc k)) *ℤ pos M +ℤ pos p) (sym (le-leb 1024 k h))
          (ap (λ (n : ℕ). neg_ℤ (pos n)) z.0 ∙ ap pos z.1 ∙ sym (ap (λ (z : ℤ). z +ℤ pos p) (pos-*ℤ-pos (k - 1024) M)
          ∙ pos-+ℤ-pos ((k - 1024) * M) p))
      go (no h) =
          let l : k < 1024 = lt_of_not-le h in
          let y : suc (1024 - suc k) * M ≡ p + A = part (k * M) (suc (1024 - suc k) * M) (1024 * M) e
          (ap (λ (x : ℕ). x * M) (forth l) ∙ add-mul (suc (1024 - suc k)) k M) in
          subst (λ (b : Bool). neg_ℤ (pos A) ≡ cond b (pos (k - 1024)) (negsuc (1024 - suc k)) *ℤ pos M +ℤ pos p) (sym (lt-leb 1024 k l))
          (less_rest ∙ sym (ap (λ (z : ℤ). z +ℤ pos p) (negsuc-*ℤ-pos (1024 - suc k) M ∙ ap (λ (n : ℕ). neg_ℤ (pos n)) y)))

-- ---- the answer's size

-- c is 2^44, K·L is 2^62: a bound in units of the sum is one in units of the answer, d·P of them
answer-within :
    (c K L d u T P dn : ℕ) → 0 < K → Within (c * (d * K * u)) (c * (K * L * T)) (K * L * T)
    → Within (c * (d * P * (dn * u))) (c * (dn * P * T * L)) (dn * P * T * L)
answer-within c K L d u T P dn k h = record {
  not-above = le_of_mul-le-mul_right {k = K} (omega (arith, mul-le-mul_right (dn * P) h.not-above)) k;
  not-below = le_of_mul-le-mul_right {k = K} (omega (arith, mul-le-mul_right (dn * P) h.not-below)) k;
}

-- up j·T·2^1074 is down j·2^(k - 2)·T·2^52
exact_raised : (k T : ℕ) → 2 ≤ k → up (minus k 1024) * T * 2 ^ 1074 ≡ down (minus k 1024) * 2 ^ (k - 2) * T * 2 ^ 52
exact_raised k T h =
    go (up (minus k 1024)) (down (minus k 1024)) (2 ^ 1024) (2 ^ k) (2 ^ (k - 2)) (power-raised k)
    (ap (λ (n : ℕ). 2 ^ n) (back h) ∙ pow-add 2 (k - 2) 2)
  where
    back : {k : ℕ} → 2 ≤ k → k ≡ k - 2 + 2
    back h = omega arith

    go : (x y z v w : ℕ) → x * z ≡ y * v → v ≡ w * 4 → x * T * (z * 2 ^ 50) ≡ y * w * T * 2 ^ 52
    go x y z v w e f = omega (arith, ap (λ (n : ℕ). n * T * 2 ^ 50) e, ap (λ (n : ℕ). y * n * T * 2 ^ 50) f)

distance : (k d T u : ℕ) → 2 ≤ k → Within (2 ^ 44 * (d * 1024 * u)) (2 ^ 44 * (2 ^ 62 * T)) (2 ^ 62 * T)
    → Within (2 ^ 44 * (d * 2 ^ (k - 2) * (down (minus k 1024) * u))) (2 ^ 44 * (up (minus k 1024) * T * 2 ^ 1074))
    (up (minus k 1024) * T * 2 ^ 1074)
distance k d T u h r =
    subst (λ (n : ℕ). Within (2 ^ 44 * (d * 2 ^ (k - 2) * (down (minus k 1024) * u))) (2 ^ 44 * n) n) (sym (exact_raised k T h))
    (answer-within (2 ^ 44) 1024 (2 ^ 52) d u T (2 ^ (k - 2)) (down (minus k 1024)) (lit< tt) r)

composed_value :
    (k v : ℕ) → 2 ≤ k → k ≤ 2046 → 2 ^ 62 ≤ v → v < 2 ^ 63 → HasValue (composed k v) false ((v + 512) / 1024 * 2 ^ (k - 2)) (2 ^ 1074)
unfolding composed
composed_value k v h l a b = made (k - 2) ((v + 512) / 1024) (omega arith) (omega arith) (omega arith)

-- ---- both signs

-- U is x + 1024·S(1/3) over third_den·b
near_of :
    (s : Bool) (a b w U : ℕ) → Placed b w U → ((k p : ℕ) → U ≡ p + k * third_num * b → p < third_num * b → Parted s a b (minus k 1024) p)
    → Near s a b (exp_at w)
unfolding exp_at
near_of s a b w U f parted =
    let k = place_of (w / 2048) in
    let v = horner (rest w k) 39 in
    record {
      j = minus k 1024;
      p = f.p;
      parted = parted k f.p f.splits f.below;
      units = (v + 512) / 1024 * 2 ^ (k - 2);
      value = composed_value k v f.least f.most (horner_from_one (rest w k)) (horner_below_two (rest w k) f.small);
      distance = distance k ((v + 512) / 1024) (sum_num f.p (third_den * b)) (sum_den (third_den * b)) f.least
          (subst (λ (t : ℕ). Within (2 ^ 44 * ((v + 512) / 1024 * 1024 * sum_den (third_den * b))) (2 ^ 44 * (2 ^ 62 * t)) (2 ^ 62 * t))
          (last_terms_are_sum f.p (third_den * b)) f.near);
    }

up_parted : (a b k p : ℕ) → 1024 * third_num * b + a * third_den ≡ p + k * third_num * b → p < third_num * b → Parted false a b (minus k 1024) p
up_parted a b k p e l =
    record {
      whole =
          up_whole k (third_num * b) p (a * third_den) l
          (ap (λ (x : ℕ). x + a * third_den) (sym (mul_assoc 1024 third_num b)) ∙ e ∙ ap (λ (x : ℕ). p + x) (mul_assoc k third_num b));
      below = l;
    }

down_parted :
    (a b k p : ℕ) → a * third_den ≤ 1024 * third_num * b → 1024 * third_num * b - a * third_den ≡ p + k * third_num * b → p < third_num * b
    → Parted true a b (minus k 1024) p
down_parted a b k p h e l =
    record {
      whole =
          down_whole k (third_num * b) p (a * third_den) l
          (ap (λ (x : ℕ). x + a * third_den) (ap (λ (x : ℕ). p + x) (sym (mul_assoc k third_num b)) ∙ sym e) ∙ sub-add_cancel h
          ∙ mul_assoc 1024 third_num b);
      below = l;
    }

near : (x : Float) → Between x → (s : Bool) (a b : ℕ) → 0 < b → HasValue x s a b → Near s a b (exp_of x)
near x is s a b bp v =
    subst (λ (r : Float). Near s a b r) (ap exp_at w.same ∙ between x is.number is.not-over is.not-under) (go s v w.fine)
  where
    w : FractionOf x s a b
    w = written x is s a b bp v

    go : (r : Bool) → HasValue x r a b → Fine a b → Near r a b (exp_at (raised r a b))
    go false u fine =
        near_of false a b (raised false a b) (1024 * third_num * b + a * third_den) (up_found a b bp (most_709 x a b u is.not-over) fine)
        (up_parted a b)
    go true u fine =
        near_of true a b (raised true a b) (1024 * third_num * b - a * third_den) (down_found a b bp (most_708 x a b u is.not-under) fine)
        (λ k p e l. down_parted a b k p (down_fits a b bp (most_708 x a b u is.not-under)) e l)

pub promise : Promise
promise = record {
  above_709 = λ x h. sym (above_709 x h);
  below_708 = λ x h. sym (below_708 x h);
  of_nan = of_nan;
  of_zero = of_zero;
  between = near;
}
