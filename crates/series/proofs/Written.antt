-- Every positive fraction is m·2^k with m in [1,2): the rise and fall of lOf are its k. Assumes nothing.
use mathlib.Core.Path.{◌≡◌, refl, ap, ◌∙◌}
use mathlib.Core.Logic.{⊎_elim}
use Prim.Native.Nat.{ℕ, suc, ◌-◌, ◌*◌, ◌/◌, ◌^◌, ◌≤◌, ◌<◌}
use native.Mathlib.Nat.{le_of_eq, lt_of_lt_of_le, pow-suc, div-eq_of_lt, le-div_iff_mul-le, div-lt_iff_lt-mul, eq-zero-or-pos}
use native.Mathlib.Omega.{arith}
use lib.Ieee.{size}
use lib.Ieee.Digits.{size-lt, size_reaches}
use Rattle.arith.proofs.Shrinking.{size-pos}
use Rattle.series.specs.Series.{Written, rise, fall}

-- the leading digit of n stands at the place k
pub record Leads (n k : ℕ) : Type 0 where
  pub reached : 2 ^ k ≤ n
  pub below : n < 2 ^ k * 2

power_before : (s : ℕ) → 0 < s → 2 ^ s ≡ 2 ^ (s - 1) * 2
power_before s h = ap (λ (k : ℕ). 2 ^ k) (back s h) ∙ pow-suc 2 (s - 1)
  where
    back : (s : ℕ) → 0 < s → s ≡ suc (s - 1)
    back s h = omega arith

leads : (n : ℕ) → 0 < n → Leads n (size n - 1)
leads n pn =
    let p : 0 < size n = size-pos n pn in
    record { reached = size_reaches n (size n - 1) (omega arith); below = lt_of_lt_of_le (size-lt n) (le_of_eq (power_before (size n) p)) }

module _ (a b : ℕ) (pa : 0 < a) (pb : 0 < b) where
  size_of-none : size 0 ≡ 0
  unfolding size lib.Ieee.climb lib.Ieee.span
  size_of-none = refl

  -- from 1 up
  no_fall : b ≤ a → fall a b ≡ 0
  unfolding fall
  no_fall h = ap size (div-eq_of_lt {n = b - 1} {m = a} (omega arith)) ∙ size_of-none

  rise_leads : b ≤ a → Leads (a / b) (rise a b)
  unfolding rise
  rise_leads h = leads (a / b) ((le-div_iff_mul-le pb).1 (omega arith))

  -- below 1
  no_rise : a < b → rise a b ≡ 0
  unfolding rise
  no_rise h = ap (λ (n : ℕ). n - 1) (ap size (div-eq_of_lt h) ∙ size_of-none)

  fall-power : a < b → 2 ^ fall a b ≡ 2 ^ (size ((b - 1) / a) - 1) * 2
  unfolding fall
  fall-power h = power_before (size ((b - 1) / a)) (size-pos ((b - 1) / a) ((le-div_iff_mul-le pa).1 (omega arith)))

  fall_leads : a < b → Leads ((b - 1) / a) (size ((b - 1) / a) - 1)
  fall_leads h = leads ((b - 1) / a) ((le-div_iff_mul-le pa).1 (omega arith))

  from_one_up : b ≤ a → Written a b (rise a b) (fall a b) (a * 2 ^ fall a b) (b * 2 ^ rise a b)
  from_one_up h =
      let l : Leads (a / b) (rise a b) = rise_leads h in
      let r : 2 ^ rise a b * b ≤ a = (le-div_iff_mul-le pb).0 l.reached in
      let s : a < 2 ^ rise a b * 2 * b = (div-lt_iff_lt-mul pb).0 l.below in
      let e : a * 2 ^ fall a b ≡ a * 1 = ap (λ (k : ℕ). a * 2 ^ k) (no_fall h) in
      record { from_one = omega arith; below_two = omega arith; value = refl }

  below_one : a < b → Written a b (rise a b) (fall a b) (a * 2 ^ fall a b) (b * 2 ^ rise a b)
  below_one h =
      let l : Leads ((b - 1) / a) (size ((b - 1) / a) - 1) = fall_leads h in
      let r : 2 ^ (size ((b - 1) / a) - 1) * a ≤ b - 1 = (le-div_iff_mul-le pa).0 l.reached in
      let s : b - 1 < 2 ^ (size ((b - 1) / a) - 1) * 2 * a = (div-lt_iff_lt-mul pa).0 l.below in
      let e : b * 2 ^ rise a b ≡ b * 1 = ap (λ (k : ℕ). b * 2 ^ k) (no_rise h) in
      let f : a * 2 ^ fall a b ≡ a * (2 ^ (size ((b - 1) / a) - 1) * 2) = ap (λ (x : ℕ). a * x) (fall-power h) in
      record { from_one = omega arith; below_two = omega arith; value = refl }

  -- "x = m·2^k with m in [1,2)" for the k and the m of lOf
  pub written : Written a b (rise a b) (fall a b) (a * 2 ^ fall a b) (b * 2 ^ rise a b)
  written = ⊎_elim (λ e. from_one_up (omega arith)) (λ l. below_one (omega arith)) (eq-zero-or-pos (b - a))
