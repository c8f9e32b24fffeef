-- The digits of a subnormal, shifted to bring their leading one to 2^52. Assumes nothing.
use mathlib.Core.Path.{◌≡◌, refl, sym, ap, subst, ◌∙◌}
use Prim.Native.Nat.{ℕ, suc, ◌+◌, ◌-◌, ◌*◌, ◌%◌, ◌^◌, ◌≤◌, ◌<◌}
use native.Mathlib.Nat.{mul-le-mul_right, mod-eq_of_lt, lt_of_not-le, not-le_of_lt, lt_of_le_of_lt}
use native.Mathlib.Omega.{arith}
use lib.Pow.{pow-add, pow_mono, shl_lt}
use lib.Count.{count_leading_zeros, leading_top}
use Rattle.double.specs.Fields.{shift}

-- what is known of z, the leading zeros of the digits t among 64 places
pub record Shifted (t z : ℕ) : Type 0 where
  pub least : 12 ≤ z
  pub most : z ≤ 63
  pub from : 2 ^ 52 ≤ t * 2 ^ (z - 11)
  pub to : t * 2 ^ (z - 11) < 2 ^ 53
  pub whole : t * 2 ^ (z - 11) % 2 ^ 64 ≡ t * 2 ^ (z - 11)

-- of t's j + 1 digits the leading one stands at 2^j
at_leading : (t z j : ℕ) → t < 2 ^ 52 → z + suc j ≡ 64 → 2 ^ j ≤ t → t < 2 ^ suc j → Shifted t z
at_leading t z j h e a b =
    let under : j < 52 = lt_of_not-le (λ (g : 52 ≤ j). not-le_of_lt (lt_of_le_of_lt a h) (pow_mono g)) in
    let place : j + (z - 11) ≡ 52 = omega arith in
    let above : suc j + (z - 11) ≡ 53 = omega arith in
    let from : 2 ^ 52 ≤ t * 2 ^ (z - 11) = subst (λ (k : ℕ). k ≤ t * 2 ^ (z - 11))
    (sym (pow-add 2 j (z - 11)) ∙ ap (λ (k : ℕ). 2 ^ k) place) (mul-le-mul_right (2 ^ (z - 11)) a) in
    let to : t * 2 ^ (z - 11) < 2 ^ 53 = subst (λ (k : ℕ). t * 2 ^ (z - 11) < 2 ^ k) above (shl_lt (suc j) (z - 11) b) in
    record { least = omega arith; most = omega arith; from = from; to = to; whole = mod-eq_of_lt (omega arith) }

pub shifted : (t : ℕ) → 0 < t → t < 2 ^ 52 → Shifted t (count_leading_zeros 64 t)
shifted t p h =
    let l = leading_top 64 t p (omega arith) in
    at_leading t (count_leading_zeros 64 t) l.0 h l.1 l.2 l.3

pub shift_is : (t : ℕ) → shift t ≡ count_leading_zeros 64 t - 11
unfolding shift
shift_is t = refl
