-- The whole-number logarithm of document 01 on exact fractions: S as a fraction, L as a signed fraction. Definitions only.
use Rattle.std.specs.Prelude.{ℕ, zero, suc, ◌+◌, ◌-◌, ◌*◌, ◌/◌, ◌^◌, ◌≤◌, ◌<◌, ◌≡◌}
use Rattle.std.specs.Float.Ieee.{size}

-- f 0 + f 1 + .. + f (n - 1)
unfoldable pub sum : (ℕ → ℕ) → ℕ → ℕ
sum f zero = 0
sum f (suc n) = sum f n + f n

-- 1 · 3 · 5 · .. · (2n - 1)
unfoldable pub odd_product : ℕ → ℕ
odd_product zero = 1
odd_product (suc n) = odd_product n * (2 * n + 1)

-- t^(2j+1)/(2j+1) at t = p/q, over the denominator that all forty terms have in common: 1 · 3 · .. · 79 · q^79
unfoldable pub term : ℕ → ℕ → ℕ → ℕ
term p q j = odd_product 40 / (2 * j + 1) * p ^ (2 * j + 1) * q ^ (78 - 2 * j)

-- 01: "S(t) is twice the sum over j = 0..39 of t^(2j+1)/(2j+1)". S(p/q) is s_num p q / s_den q
unfoldable pub s_num : ℕ → ℕ → ℕ
s_num p q = 2 * sum (term p q) 40

unfoldable pub s_den : ℕ → ℕ
s_den q = odd_product 40 * q ^ 79

-- A fraction that may be negative: (plus - less) / over
pub record Signed : Type 0 where
  pub plus : ℕ
  pub less : ℕ
  pub over : ℕ

-- "x = m·2^k with m in [1,2)", for x = a/b, k = rise - fall and m = c/d
pub record Written (a b rise fall c d : ℕ) : Type 0 where
  pub from_one : d ≤ c
  pub below_two : c < 2 * d
  pub value : a * 2 ^ fall * d ≡ c * (b * 2 ^ rise)

-- 01: "L(x) = k·S(1/3) + S((m-1)/(m+1))", with k = rise - fall and m = c/d, so that (m-1)/(m+1) is (c-d)/(c+d)
unfoldable pub lAt : ℕ → ℕ → ℕ → ℕ → Signed
lAt rise fall c d = record {
  plus = rise * (s_num 1 3 * s_den (c + d)) + s_num (c - d) (c + d) * s_den 3;
  less = fall * (s_num 1 3 * s_den (c + d));
  over = s_den 3 * s_den (c + d);
}

-- The k of a/b: from 1 up, a/b has rise + 1 binary digits before the point; below 1, fall is how often it is to be doubled to reach 1. One
-- of the two is 0.
unfoldable pub rise : ℕ → ℕ → ℕ
rise a b = size (a / b) - 1

unfoldable pub fall : ℕ → ℕ → ℕ
fall a b = size ((b - 1) / a)

-- L(a/b), for a and b above 0: the k and the m of a/b are as 01 wants them, `Written`, which proofs/Written shows
unfoldable pub lOf : ℕ → ℕ → Signed
lOf a b = lAt (rise a b) (fall a b) (a * 2 ^ fall a b) (b * 2 ^ rise a b)

-- |x|, over the same denominator
abbrev pub magnitude : Signed → ℕ
magnitude x = x.plus - x.less + (x.less - x.plus)

-- x + p/q
abbrev pub plus_fraction : Signed → ℕ → ℕ → Signed
plus_fraction x p q = record { plus = x.plus * q + p * x.over; less = x.less * q; over = x.over * q }

-- The same number: (plus - less) / over, both denominators being above 0
pub record Same (x y : Signed) : Type 0 where
  pub crosswise : x.plus * y.over + y.less * x.over ≡ y.plus * x.over + x.less * y.over
