-- The allowed trials fall, and there are at most `bound` of them: each product leaves at most 0.99 + 2^-53 of a trial, so 69 of them take a
-- binary exponent. Assumes nothing.
-- The trials are followed in units, that is as whole numbers. A start below the smallest step may be subnormal; then the first product is
-- below the smallest step too.
use mathlib.Core.Path.{◌≡◌, refl, sym, ap, ◌∙◌, subst}
use Prim.Native.Nat.{ℕ, zero, suc, ◌+◌, ◌-◌, ◌*◌, ◌^◌, ◌≤◌, ◌<◌}
use mathlib.Core.Logic.{inl, inr}
use native.Mathlib.Nat.{le_refl, le_trans, le_of_eq, le_of_lt, le-suc, le_step, lt_trans, lt_of_le_of_lt, lt_of_lt_of_le, lt_of_not-le}
use native.Mathlib.Nat.{eq-or-lt_of_le, le_of_suc-le-suc, not-suc-le-zero}
use native.Mathlib.Nat.{one-mul, mul_comm, mul_assoc, mul-le-mul_right, le-div_iff_mul-le}
use native.Mathlib.Omega.{arith}
use mathlib.Core.Bool.{Bool, true, false, cond, true≢false}
use lib.Dec.{T, lit<, lit≤}
use lib.Pow.{pow_pos}
use lib.Ieee.{Float, binary64, of_bits, size, to_bits}
use lib.Ieee.Bits.{is_true}
use lib.Ieee.Scale.{overflow}
use lib.Ieee.Positive.{num, den, den_pos, positive, positive_of_value, le→cross}
use Rattle.arith.proofs.Shrinking.{Shrinks, size_mono, digits_fall}
use Rattle.rounding.specs.Units.{units_of, IsUnits}
use Rattle.rounding.proofs.Units.{units_of_lem, is-units, units_under, lt_of_units, units_of_lt}
use Rattle.rounding.proofs.Products.{Shrunk, mul_shrinks}
use Rattle.double.specs.Operators.{◌≺◌, ◌≼◌}
use Rattle.double.specs.Numbers.{#largest_step, #smallest_normal}
use Rattle.double.proofs.Fields.{field_lt}
use Rattle.cone.specs.declared.Settings.{Settings}
use Rattle.search.specs.trials.Trials.{trial, Allowed, exponent_of, products_per_exponent, bound, Usable}
use Rattle.search.proofs.trials.Exponents.{digits_by_exponent}

-- One product leaves at most R / Q of a trial: 99 / 100, and half a place of 53 digits.
abbrev Q : ℕ
Q = 100 * 2 ^ 53

abbrev R : ℕ
R = 99 * 2 ^ 53 + 100

abbrev K : ℕ
K = products_per_exponent

-- the double nearest to 0.99 is below 0.99
step_at_most : (y : Float) → T (positive y) → T (y ≼ #largest_step) → num y * 100 ≤ 99 * den y
unfolding of_bits
step_at_most y p h = go (num y) (den y) (le→cross y #largest_step p tt h)
  where
    go : (n d : ℕ) → n * 2 ^ 52 ≤ 4458563631096791 * d → n * 100 ≤ 99 * d
    go n d h = omega arith

normal_units : (x : Float) → T (positive x) → T (#smallest_normal ≼ x) → 2 ^ 52 ≤ units_of binary64 x
unfolding of_bits
normal_units x p h = (le-div_iff_mul-le (den_pos x)).1 (go (den x) (num x) (le→cross #smallest_normal x tt p h))
  where
    go : (d n : ℕ) → 1 * 1 * d ≤ n * 2 ^ 1022 → 2 ^ 52 * d ≤ n * 2 ^ 1074
    go d n h =
        le_trans (le_of_eq (ap (λ (z : ℕ). 2 ^ 52 * z) (sym (one-mul d))))
        (le_trans (le_of_eq (mul_comm (2 ^ 52) (1 * 1 * d)))
        (le_trans (mul-le-mul_right (2 ^ 52) h) (le_of_eq (mul_assoc n (2 ^ 1022) (2 ^ 52)))))

less_of_product : (g m : ℕ) → g * (100 * 2 ^ 53) ≤ m * (99 * 2 ^ 53 + 100) → 0 < m → g < m
less_of_product g m h p = omega arith

module _ (how : Settings) (ok : Usable how) where
  -- the units of the trial k, and of the smallest step
  u : ℕ → ℕ
  u k = units_of binary64 (trial how k)

  M : ℕ
  M = units_of binary64 how.smallest

  M-normal : 2 ^ 52 ≤ M
  unfolding M
  M-normal = normal_units how.smallest ok.smallest_positive ok.smallest_normal

  M-pos : 0 < M
  M-pos = lt_of_lt_of_le (pow_pos 52) M-normal

  M-is : IsUnits binary64 how.smallest M
  unfolding M
  M-is = is-units binary64 how.smallest ok.smallest_double ok.smallest_positive

  start_is : IsUnits binary64 how.start (units_of binary64 how.start)
  start_is = is-units binary64 how.start ok.start_double ok.start_positive

  -- what is known of a trial that is M units at least
  record Good (k : ℕ) : Type 0 where
    pub pos : T (positive (trial how k))
    pub is : IsUnits binary64 (trial how k) (u k)
    pub above : M ≤ u k
    pub under : u k < overflow binary64

  -- the trial after k, against any bound N of the trial k that is in the normal range
  next : (k N : ℕ) → T (positive (trial how k)) → IsUnits binary64 (trial how k) (u k) → u k ≤ N → M ≤ N → N < overflow binary64
      → Shrunk binary64 (trial how (suc k)) N 99 100
  unfolding trial u
  next k N p i a b c =
      let s = how.step in
      let most = step_at_most s ok.step_positive ok.step_most in
      mul_shrinks binary64 (trial how k) s (u k) N 99 100 p ok.step_positive i (lit< tt) most (lit≤ tt) a (le_trans M-normal b) c

  after : (k : ℕ) → Good k → Shrunk binary64 (trial how (suc k)) (u k) 99 100
  after k g = next k (u k) g.pos g.is (le_refl (u k)) g.above g.under

  -- a value that is not below the smallest step is M units at least
  not-below : (x : Float) (g : ℕ) → IsUnits binary64 x g → (x ≺ how.smallest) ≡ false → M ≤ g
  not-below x g i e =
      le_of_not_lt M
      (λ (h : g < M). true≢false (sym (is_true (x ≺ how.smallest) (lt_of_units binary64 x how.smallest g M i M-is h)) ∙ e))
    where
      le_of_not_lt : (m : ℕ) → (g < m → ⊥) → m ≤ g
      le_of_not_lt m n = omega arith

  good_of : (k g : ℕ) → IsUnits binary64 (trial how k) g → (trial how k ≺ how.smallest) ≡ false → g < overflow binary64 → Good k
  unfolding u
  good_of k g i e o =
      let same : units_of binary64 (trial how k) ≡ g = units_of_lem binary64 (trial how k) g i in
      let above : M ≤ g = not-below (trial how k) g i e in
      record {
        pos = positive_of_value (trial how k) g (2 ^ 1074) i (lt_of_lt_of_le M-pos above);
        is = subst (λ (z : ℕ). IsUnits binary64 (trial how k) z) (sym same) i;
        above = subst (λ (z : ℕ). M ≤ z) (sym same) above;
        under = subst (λ (z : ℕ). z < overflow binary64) (sym same) o;
      }

  good : (how.start ≺ how.smallest) ≡ false → (n k : ℕ) → Allowed how n → k ≤ n → Good k
  unfolding trial
  good e n zero a l =
      good_of 0 (units_of binary64 how.start) start_is e (units_under binary64 how.start ok.start_double ok.start_positive)
  good e n (suc k) a l =
      let g = good e n k a (le_of_lt l) in
      let z = after k g in
      good_of (suc k) z.units z.is (a (suc k) (omega arith) l) (lt_of_le_of_lt z.under g.under)

  shrinks : (how.start ≺ how.smallest) ≡ false → (n : ℕ) → Allowed how n → Shrinks u Q R n
  unfolding u
  shrinks e n a i l =
      let z = after i (good e n i a (le_of_lt l)) in
      subst (λ (w : ℕ). w * Q ≤ u i * R) (sym (units_of_lem binary64 (trial how (suc i)) z.units z.is)) z.small

  -- K products take a binary digit, K * t take t. What makes K 69 is 2 * R ^ K ≤ Q ^ K, which is computed
  exponents-fall : (how.start ≺ how.smallest) ≡ false → (t : ℕ) → Allowed how (K * t) → size (u (K * t)) + t ≤ size (u 0)
  exponents-fall e t a =
      digits_fall u Q R K t (lit< tt) (lit≤ tt) (shrinks e (K * t) a) (λ i l. lt_of_lt_of_le M-pos (good e (K * t) i a l).above)

  -- the start is not below the smallest step
  most : (how.start ≺ how.smallest) ≡ false → (n : ℕ) → Allowed how n → n < K * (exponent_of how.start - exponent_of how.smallest + 1)
  unfolding u M trial
  most e n a =
      let x = exponent_of how.start in
      let m = exponent_of how.smallest in
      let t = x - m + 1 in
      lt_of_not-le (λ (h : K * t ≤ n).
      let a' : Allowed how (K * t) = λ j p l. a j p (le_trans l h) in
      let normal = le_trans M-normal (good e n 0 a (omega arith)).above in
      let s : size (u 0) ≡ x + 52 = digits_by_exponent how.start ok.start_double ok.start_positive normal in
      let z : size M ≡ m + 52 = digits_by_exponent how.smallest ok.smallest_double ok.smallest_positive M-normal in
      let f : size (u (K * t)) + t ≤ size (u 0) = exponents-fall e t a' in
      let g : size M ≤ size (u (K * t)) = size_mono M (u (K * t)) (good e (K * t) (K * t) a' (le_refl (K * t))).above in
      clash (size (u (K * t))) x m (le_trans f (le_of_eq s)) (le_trans (le_of_eq (sym z)) g))
    where
      clash : (z x m : ℕ) → z + (x - m + 1) ≤ x + 52 → m + 52 ≤ z → ⊥
      clash z x m f g = omega arith

  -- the start is below the smallest step: so is the first product
  once : (how.start ≺ how.smallest) ≡ true → (trial how 1 ≺ how.smallest) ≡ true
  unfolding u M trial
  once e =
      let n = units_of binary64 how.start in
      let below : n < M = units_of_lt binary64 how.start how.smallest n M start_is M-is (subst (λ (b : Bool). T b) (sym e) tt) in
      let small = units_under binary64 how.smallest ok.smallest_double ok.smallest_positive in
      let z = next 0 M ok.start_positive start_is (le_of_lt below) (le_refl M) small in
      let less = less_of_product z.units M z.small M-pos in
      is_true (trial how 1 ≺ how.smallest) (lt_of_units binary64 (trial how 1) how.smallest z.units M z.is M-is less)

  pub under-bound : (n : ℕ) → Allowed how n → n < bound how
  under-bound n a = go (how.start ≺ how.smallest) refl
    where
      only : (how.start ≺ how.smallest) ≡ true → (n : ℕ) → Allowed how n → n < 1
      only e zero a = lit< tt
      only e (suc n) a = absurd (true≢false (sym (once e) ∙ a 1 (omega arith) (omega arith)))

      go : (b : Bool) → (how.start ≺ how.smallest) ≡ b → n < cond b 1 (K * (exponent_of how.start - exponent_of how.smallest + 1))
      go false e = most e n a
      go true e = only e n a

  -- every allowed trial is a positive finite number
  pub trial_positive : (n : ℕ) → Allowed how n → T (positive (trial how n))
  unfolding trial
  trial_positive n a = go (how.start ≺ how.smallest) refl n a
    where
      go : (b : Bool) → (how.start ≺ how.smallest) ≡ b → (n : ℕ) → Allowed how n → T (positive (trial how n))
      go false e n a = (good e n n a (le_refl n)).pos
      go true e zero a = ok.start_positive
      go true e (suc n) a = absurd (true≢false (sym (once e) ∙ a 1 (omega arith) (omega arith)))

  -- the allowed trials fall: each is below all before it
  next_falls : (how.start ≺ how.smallest) ≡ false → (k : ℕ) → Allowed how (suc k) → u (suc k) < u k
  unfolding u
  next_falls e k a =
      let g = good e (suc k) k a (le-suc k) in
      let z = after k g in
      subst (λ (w : ℕ). w < u k) (sym (units_of_lem binary64 (trial how (suc k)) z.units z.is))
      (less_of_product z.units (u k) z.small (lt_of_lt_of_le M-pos g.above))

  falls : (how.start ≺ how.smallest) ≡ false → (n k : ℕ) → k < n → Allowed how n → u n < u k
  falls e zero k l a = absurd (not-suc-le-zero l)
  falls e (suc n) k l a =
      elim (eq-or-lt_of_le (le_of_suc-le-suc l)) [
        | inl p ↦ subst (λ (j : ℕ). u (suc n) < u j) (sym p) (next_falls e n a)
        | inr h ↦ lt_trans (next_falls e n a) (falls e n k h (λ j p m. a j p (le_step m)))
      ]

  pub above_later : (k n : ℕ) → k < n → Allowed how n → T (trial how n ≺ trial how k)
  unfolding u
  above_later k n l a = go (how.start ≺ how.smallest) refl
    where
      go : (b : Bool) → (how.start ≺ how.smallest) ≡ b → T (trial how n ≺ trial how k)
      go true e = absurd (true≢false (sym (once e) ∙ a 1 (omega arith) (omega arith)))
      go false e =
          lt_of_units binary64 (trial how n) (trial how k) (u n) (u k) (good e n n a (le_refl n)).is (good e n k a (le_of_lt l)).is
          (falls e n k l a)

-- so a count of tests fits 32 bits
pub bound_small : (how : Settings) → bound how ≤ 141312
bound_small how = go (how.start ≺ how.smallest)
  where
    small : (x m : ℕ) → x < 2048 → K * (x - m + 1) ≤ 141312
    small x m h = omega arith

    go : (b : Bool) → cond b 1 (K * (exponent_of how.start - exponent_of how.smallest + 1)) ≤ 141312
    go true = lit≤ tt
    go false = small (exponent_of how.start) (exponent_of how.smallest) (field_lt (to_bits binary64 how.start))
