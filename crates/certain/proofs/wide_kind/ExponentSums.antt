-- The exponents' exact sum is at most 5/4, their computed one being above 1 by at most the rule's tolerance. Assumes nothing.
use mathlib.Core.Path.{◌≡◌, refl, sym, subst}
use mathlib.Core.List.{List}
use Prim.Native.Nat.{ℕ, zero, suc, ◌+◌, ◌-◌, ◌*◌, ◌/◌, ◌^◌, ◌≤◌, ◌<◌}
use native.Mathlib.Nat.{le_trans, le_refl, le_step, le_of_suc-le, mul-le-mul_right, mul-le-mul_left, le_of_mul-le-mul_right, le_of_lt}
use native.Mathlib.Nat.{lt_of_not-le, le_dest}
use native.Mathlib.Decide.{dec_le}
use native.Mathlib.Omega.{arith}
use lib.Dec.{T, lit≤, lit<}
use lib.Count.{count_trailing_zeros}
use lib.Pow.{pow_pos}
use lib.ListN.{length}
use lib.Ieee.{Float, binary64, of_bits, of_fields, odd}
use lib.Ieee.Positive.{num, den, positive_of_value, values_of_le}
use Rattle.arith.specs.Turns.{iter}
use Rattle.double.specs.Operators.{◌⊕◌, ◌⊖◌, ◌≼◌, at}
use Rattle.double.specs.Numbers.{#0, #1}
use Rattle.double.specs.Fields.{Units}
use Rattle.rounding.specs.Units.{units_of}
use Rattle.rounding.proofs.errors.Added.{Totalled, total_near}
use Rattle.algebra.specs.Vectors.{sum_of, sum_turn}
use Rattle.certain.proofs.power.Weights.{one-units, difference_near}
use Rattle.certain.proofs.power.Dual.{rest_large}
use Rattle.certain.proofs.power.Decided.{zero-units}
use Rattle.certain.specs.wide.Sums.{total}
use Rattle.certain.specs.wide.Meaning.{most_exponents, sum_tolerance}
use Rattle.certain.proofs.wide_kind.Points.{Exponent}

abbrev U : ℕ
U = 2 ^ 1074

-- 2^-44
abbrev D : ℕ
D = 2 ^ 1030

abbrev tolerance : ℕ
tolerance = num sum_tolerance * U / den sum_tolerance

tolerance-units : Units sum_tolerance tolerance
unfolding of_bits of_fields odd count_trailing_zeros
tolerance-units = (refl, refl)

tolerance-some : 0 < tolerance
unfolding of_bits of_fields odd count_trailing_zeros
tolerance-some = lit< tt

tolerance_small : 4 * (16 * tolerance) ≤ U
unfolding of_bits of_fields odd count_trailing_zeros
tolerance_small = lit≤ tt

-- after n terms: t units, at most 2n, and the exact sum S at most n·2^-44 more
record Sum (r : Float) (S n : ℕ) : Type 0 where
  units : ℕ
  is : Units r units
  most : units ≤ 2 * n * U
  near : S ≤ units + n * D

few_error : (t a n z : ℕ) → n ≤ most_exponents → t ≤ 2 * n * z → a ≤ z → t + a ≤ 65 * z
few_error t a n z l h k = go t a z (le_trans h (mul-le-mul_right z (mul-le-mul_left 2 l))) k
  where
    go : (t a z : ℕ) → t ≤ 2 * most_exponents * z → a ≤ z → t + a ≤ 65 * z
    go t a z h k = omega arith

-- U = 2^44·D
error_shape : (r s d : ℕ) → s ≤ 65 * (2 ^ 44 * d) → 2 ^ 10 ≤ d → s * 2 ^ 53 ≤ r * 2 ^ 53 + (s + 2 ^ 52) → s ≤ r + d
error_shape r s d l b h = go (dec_le s r)
  where
    go : Dec (s ≤ r) → s ≤ r + d
    go (yes i) = under s r d i
      where
        under : (s r d : ℕ) → s ≤ r → s ≤ r + d
        under s r d i = omega arith
    go (no i) = over (le_dest (le_of_lt (lt_of_not-le i)))
      where
        few : (r e s : ℕ) → (r + e) * 2 ^ 53 ≤ r * 2 ^ 53 + (s + 2 ^ 52) → e * 2 ^ 53 ≤ s + 2 ^ 52
        few r e s h = omega arith

        small : (e s d : ℕ) → s ≤ 65 * (2 ^ 44 * d) → 2 ^ 10 ≤ d → e * 2 ^ 53 ≤ s + 2 ^ 52 → e * 2 ^ 53 ≤ 2 ^ 53 * d
        small e s d l b h = omega arith

        once : (e d : ℕ) → e * 2 ^ 53 ≤ 2 ^ 53 * d → e ≤ d
        once e d h = omega arith

        last : (r e s d : ℕ) → r + e ≡ s → e ≤ d → s ≤ r + d
        last r e s d i j = omega arith

        over : (e : ℕ) × (r + e ≡ s) → s ≤ r + d
        over (e, k) =
            last r e s d k (once e d (small e s d l b (few r e s (subst (λ (t : ℕ). t * 2 ^ 53 ≤ r * 2 ^ 53 + (s + 2 ^ 52)) (sym k) h))))

upper_shape : (r s z : ℕ) → 2 ^ 60 ≤ z → s ≤ 65 * z → r * 2 ^ 53 ≤ s * 2 ^ 53 + (s + 2 ^ 52) → r ≤ s + z
upper_shape r s z b l h = go (dec_le r s)
  where
    go : Dec (r ≤ s) → r ≤ s + z
    go (yes i) = under r s z i
      where
        under : (r s z : ℕ) → r ≤ s → r ≤ s + z
        under r s z i = omega arith
    go (no i) = over (le_dest (le_of_lt (lt_of_not-le i)))
      where
        few : (s e : ℕ) → (s + e) * 2 ^ 53 ≤ s * 2 ^ 53 + (s + 2 ^ 52) → e * 2 ^ 53 ≤ s + 2 ^ 52
        few s e h = omega arith

        small : (e s z : ℕ) → 2 ^ 60 ≤ z → s ≤ 65 * z → e * 2 ^ 53 ≤ s + 2 ^ 52 → e ≤ z
        small e s z b l h = omega arith

        last : (s e r z : ℕ) → s + e ≡ r → e ≤ z → r ≤ s + z
        last s e r z i j = omega arith

        over : (e : ℕ) × (s + e ≡ r) → r ≤ s + z
        over (e, k) = last s e r z k (small e s z b l (few s e (subst (λ (t : ℕ). t * 2 ^ 53 ≤ s * 2 ^ 53 + (s + 2 ^ 52)) (sym k) h)))

one_more : (r a : Float) (S A n : ℕ) → n ≤ most_exponents → Sum r S n → Units a A → A ≤ U → Sum (r ⊕ a) (S + A) (suc n)
one_more r a S A n l s is-a most =
    let s_few : s.units + A ≤ 65 * U = few_error s.units A n U l s.most most in
    let t : Totalled binary64 (r ⊕ a) (s.units + A) =
    total_near binary64 r a s.units A s.is is-a (le_trans s_few (mul-le-mul_right {m = 65} {n = 2 ^ 1023} U (lit≤ tt))) in
    record {
      units = t.units;
      is = t.is;
      most =
          grown t.units s.units A n U (upper_shape t.units (s.units + A) U (lit≤ tt) s_few t.near.not-above) s.most most;
      near = joined S A s.units t.units n D s.near (error_shape t.units (s.units + A) D s_few (lit≤ tt) t.near.not-below);
    }
  where
    grown : (t s a n z : ℕ) → t ≤ s + a + z → s ≤ 2 * n * z → a ≤ z → t ≤ 2 * suc n * z
    grown t s a n z h i j = omega arith

    joined : (S A s t n d : ℕ) → S ≤ s + n * d → s + A ≤ t + d → S + A ≤ t + suc n * d
    joined S A s t n d h k = omega arith

summed :
    (α : List Float) (n : ℕ) → n ≤ most_exponents → ((i : ℕ) → i < n → Exponent (at α i))
    → Sum (iter (sum_turn α) #0 n) (total (λ (i : ℕ). units_of binary64 (at α i)) n) n
unfolding iter total
summed α zero l h = record { units = 0; is = zero-units; most = none U; near = none' D }
  where
    none : (z : ℕ) → 0 ≤ 2 * 0 * z
    none z = omega arith

    none' : (z : ℕ) → 0 ≤ 0 + 0 * z
    none' z = omega arith
summed α (suc n) l h =
    let a = h n (le_refl (suc n)) in
    one_more (iter (sum_turn α) #0 n) (at α n) _ (units_of binary64 (at α n)) n (le_of_suc-le l)
    (summed α n (le_of_suc-le l) (λ i k. h i (le_step k))) a.is
    a.most

-- t units are at most 1 and a sixteenth, where t - 1 is at most 2^-40 as computed
above-one : (t : Float) (T : ℕ) → Units t T → T ≤ 2 * most_exponents * U → lib.Dec.T (t ⊖ #1 ≼ sum_tolerance) → 16 * T ≤ 17 * U
above-one t T is most test = go (dec_le (16 * T) (17 * U))
  where
    go : Dec (16 * T ≤ 17 * U) → 16 * T ≤ 17 * U
    go (yes l) = l
    go (no l) = absurd (never (T - U) d.units (16 * tolerance) U (pow_pos 1074) large tolerance_small half small)
      where
        more : (T z : ℕ) → (16 * T ≤ 17 * z → ⊥) → z ≤ T
        more T z h = omega arith

        left : (T z : ℕ) → (16 * T ≤ 17 * z → ⊥) → z ≤ 16 * (T - z)
        left T z h = omega arith

        large : U ≤ 16 * (T - U)
        large = left T U l

        d : Totalled binary64 (t ⊖ #1) (T - U)
        d =
            difference_near t #1 T U is one-units (more T U l)
            (le_trans most (mul-le-mul_right {m = 2 * most_exponents} {n = 2 ^ 1023} U (lit≤ tt)))

        half : T - U + 2 ^ 52 ≤ 2 * d.units
        half = rest_large d.units (T - U) (sixteenth (T - U) U (lit≤ tt) large) d.near.not-below
          where
            sixteenth : (n z : ℕ) → 2 ^ 64 ≤ z → z ≤ 16 * n → 2 ^ 60 ≤ n
            sixteenth n z b h = omega arith

        positive : 0 < d.units
        positive = go' d.units (T - U) half
          where
            go' : (r n : ℕ) → n + 2 ^ 52 ≤ 2 * r → 0 < r
            go' r n h = omega arith

        small : 16 * d.units ≤ 16 * tolerance
        small =
            mul-le-mul_left {m = d.units} {n = tolerance} 16
            (le_of_mul-le-mul_right {k = U}
            (values_of_le (t ⊖ #1) sum_tolerance d.units U tolerance U (positive_of_value (t ⊖ #1) d.units U d.is positive)
            (positive_of_value sum_tolerance tolerance U tolerance-units tolerance-some) d.is tolerance-units test)
            (pow_pos 1074))

        never : (n r k z : ℕ) → 0 < z → z ≤ 16 * n → 4 * k ≤ z → n + 2 ^ 52 ≤ 2 * r → 16 * r ≤ k → ⊥
        never n r k z p i j h s = omega arith

pub exact_sum :
    (α : List Float) → length α ≤ most_exponents → ((i : ℕ) → i < length α → Exponent (at α i)) → lib.Dec.T (sum_of α ⊖ #1 ≼ sum_tolerance)
    → 4 * total (λ (i : ℕ). units_of binary64 (at α i)) (length α) ≤ 5 * U
unfolding sum_of
exact_sum α l h test =
    let s = summed α (length α) l h in
    last (total (λ (i : ℕ). units_of binary64 (at α i)) (length α)) s.units (length α * D) (most_exponents * D) U s.near
    (mul-le-mul_right D l)
    (lit≤ tt)
    (above-one (iter (sum_turn α) #0 (length α)) s.units s.is (le_trans s.most (mul-le-mul_right U (mul-le-mul_left 2 l))) test)
  where
    last : (S t n d z : ℕ) → S ≤ t + n → n ≤ d → 16 * d ≤ z → 16 * t ≤ 17 * z → 4 * S ≤ 5 * z
    last S t n d z h i j k = omega arith
