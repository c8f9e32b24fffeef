-- Numbers as text: one digit, one digit more, and how many at most. Assumes nothing.
use mathlib.Core.Path.{◌≡◌, refl, sym, ap, ◌∙◌}
use mathlib.Core.Bool.{Bool, true, false}
use mathlib.Core.List.{List, ◌++◌}
use Prim.Native.Nat.{ℕ, zero, suc, ◌/◌, ◌%◌, ◌^◌, ◌<◌, ◌≤◌}
use native.Mathlib.Omega.{arith}
use lib.Dec.{ltb}
use lib.ListN.{length, length-append}
use borrow.Author.Tests.{lt-ltb, le-ltb, ltb-true, ltb-false}
use Rattle.octets.specs.decimal.Decimal.{digit, decimal_in, decimal_of}

pub one-digit : (k n : ℕ) → n < 10 → decimal_in (suc k) n ≡ digit n
unfolding decimal_in
one-digit k n h = rw (lt-ltb n 10 h)

pub more_digits : (k n : ℕ) → 10 ≤ n → decimal_in (suc k) n ≡ decimal_in k (n / 10) ++ digit (n % 10)
unfolding decimal_in
more_digits k n h = rw (le-ltb n 10 h)

enough_more : (k n : ℕ) (low : Bool) → ltb n 10 ≡ low → n < 10 ^ suc (suc k)
    → (n / 10 < 10 ^ suc k → decimal_in (suc (suc k)) (n / 10) ≡ decimal_in (suc k) (n / 10))
    → decimal_in (suc (suc (suc k))) n ≡ decimal_in (suc (suc k)) n
enough_more k n true e h tenth = one-digit (suc (suc k)) n (ltb-true n 10 e) ∙ sym (one-digit (suc k) n (ltb-true n 10 e))
enough_more k n false e h tenth =
    more_digits (suc (suc k)) n (ltb-false n 10 e) ∙ ap (λ (d : List ℕ). d ++ digit (n % 10)) (tenth (omega arith))
    ∙ sym (more_digits (suc k) n (ltb-false n 10 e))

-- a place more than a number needs changes nothing
enough : (k n : ℕ) → n < 10 ^ suc k → decimal_in (suc (suc k)) n ≡ decimal_in (suc k) n
enough zero n h = let l : n < 10 = omega arith in one-digit 1 n l ∙ sym (one-digit 0 n l)
enough (suc k) n h = enough_more k n (ltb n 10) refl h (enough k (n / 10))

length_more : (k n : ℕ) (low : Bool) → ltb n 10 ≡ low → length (decimal_in k (n / 10)) ≤ k → length (decimal_in (suc k) n) ≤ suc k
length_more k n true e tenth = omega (arith, ap length (one-digit k n (ltb-true n 10 e)))
length_more k n false e tenth =
    omega (arith, ap length (more_digits k n (ltb-false n 10 e)), length-append (decimal_in k (n / 10)) (digit (n % 10)))

pub length_decimal : (k n : ℕ) → length (decimal_in k n) ≤ k
unfolding decimal_in
length_decimal zero n = omega arith
length_decimal (suc k) n = length_more k n (ltb n 10) refl (length_decimal k (n / 10))

-- a number of 64 bits: the digits of its tenth, of which there are at most 19, and one more
module _ (n : ℕ) (h : n < 2 ^ 64) where
  fewer : decimal_of (n / 10) ≡ decimal_in 19 (n / 10)
  fewer = enough 18 (n / 10) (omega arith)

  pub tenth : 10 ≤ n → decimal_of n ≡ decimal_of (n / 10) ++ digit (n % 10)
  tenth k = more_digits 19 n k ∙ ap (λ (d : List ℕ). d ++ digit (n % 10)) (sym fewer)

  pub tenth_length : length (decimal_of (n / 10)) ≤ 19
  tenth_length = omega (arith, ap length fewer, length_decimal 19 (n / 10))
