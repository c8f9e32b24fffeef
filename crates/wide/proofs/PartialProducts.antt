-- A product of two-digit numbers in base 2^32, by four products of their digits and by three. Assumes nothing.
use Rattle.std.proofs.Common.{◌≡◌, ℕ, ◌+◌, ◌-◌, ◌*◌, ◌/◌, ◌%◌, ◌<◌, ◌≤◌, sym, refl, ap, ◌∙◌, ap₂, le-add_right, lt_of_le_of_lt, mul-le-mul_right, mul-le-mul, div-add-mod', arith}
use native.Mathlib.Nat.{le-pred_of_lt, add-mod, mul-add-mod_self_right}

abbrev pub base : ℕ
base = 4294967296

-- each partial product is at most (2^32 - 1)², which is below 2^64 by twice the largest digit: two digits more still fit
pub record Room (a b : ℕ) : Type 0 where
  pub low : a % base * (b % base) ≤ 18446744065119617025
  pub mid : a / base * (b % base) ≤ 18446744065119617025
  pub cross : a % base * (b / base) ≤ 18446744065119617025
  pub top : a / base * (b / base) ≤ 18446744065119617025

pub room_of : (a b : ℕ) → a < base → b < base → a * b ≤ 18446744065119617025
room_of a b ha hb = mul-le-mul (le-pred_of_lt ha) (le-pred_of_lt hb)

pub room : (a b : ℕ) → a < 18446744073709551616 → b < 18446744073709551616 → Room a b
room a b ha hb = record {
  low = room_of (a % base) (b % base) (omega arith) (omega arith);
  mid = room_of (a / base) (b % base) (omega arith) (omega arith);
  cross = room_of (a % base) (b / base) (omega arith) (omega arith);
  top = room_of (a / base) (b / base) (omega arith) (omega arith);
}

-- ---- by four

-- the carries: high, two middle and low partial products p, q, r, s
carried :
    (p q r s mid cross : ℕ) → mid ≡ q + s / base → cross ≡ r + mid % base
    → (p + mid / base + cross / base) * 18446744073709551616 + ((r + q % base + s / base) % base * base + s % base)
    ≡ p * 18446744073709551616 + (q + r) * base + s
carried p q r s mid cross e₁ e₂ = omega arith

-- a * b from the products of its digits, for either
multiplied : (a b x y k : ℕ) → (a * k + x) * (b * k + y) ≡ a * b * (k * k) + (a * y + x * b) * k + x * y
multiplied a b x y k = omega arith

pub joined :
    (a b p q r s : ℕ) → p ≡ a / base * (b / base) → q ≡ a / base * (b % base) → r ≡ a % base * (b / base) → s ≡ a % base * (b % base)
    → p * 18446744073709551616 + (q + r) * base + s ≡ a * b
joined a b p q r s ep eq er es =
    rw (ep, eq, er, es)
    (sym (multiplied (a / base) (b / base) (a % base) (b % base) base) ∙ ap₂ ◌*◌ (div-add-mod' a base) (div-add-mod' b base))

-- what `four::product` computes
pub four_products :
    (a b : ℕ) → let low = a % base * (b % base) in let mid = a / base * (b % base) + low / base in
    let cross = a % base * (b / base) + mid % base in
    (a / base * (b / base) + mid / base + cross / base) * 18446744073709551616
    + ((a % base * (b / base) + a / base * (b % base) % base + low / base) % base * base + low % base)
    ≡ a * b
four_products a b = carried _ _ _ _ _ _ refl refl ∙ joined a b _ _ _ _ refl refl refl refl

-- ---- the lower half

-- what `low` computes
pub lower_products :
    (a b : ℕ) → ((a / base * (b % base) % base + a % base * (b / base) % base) % base * base + a % base * (b % base)) % (base * base)
    ≡ a * b % (base * base)
lower_products a b =
    ap (λ (x : ℕ). (x * base + a % base * (b % base)) % (base * base)) (sym (add-mod (a / base * (b % base)) (a % base * (b / base)) base))
    ∙ dropped base (a / base * (b / base)) (a / base * (b % base) + a % base * (b / base)) (a % base * (b % base))
    ∙ ap (λ (x : ℕ). x % (base * base)) (joined a b _ _ _ _ refl refl refl refl)
  where
    -- y's upper digit, and p, count multiples of k * k
    dropped : (k p y s : ℕ) → (y % k * k + s) % (k * k) ≡ (p * (k * k) + y * k + s) % (k * k)
    dropped k p y s =
        sym (mul-add-mod_self_right (p + y / k) (k * k) (y % k * k + s))
        ∙ ap (λ (x : ℕ). x % (k * k)) (shape (y / k) (y % k) y (div-add-mod' y k))
      where
        shape : (c d y : ℕ) → c * k + d ≡ y → (p + c) * (k * k) + (d * k + s) ≡ p * (k * k) + y * k + s
        shape c d y e = omega (arith, ap (λ (x : ℕ). x * k) e)

-- ---- by three

-- a product of two sums of digits, from the product of their lower digits and what the 33rd bits add
pub summed : (x y : ℕ) → (x / base * y + y / base * (x % base)) * base + x % base * (y % base) ≡ x * y
summed x y =
    go (x / base) (x % base) (y / base) (y % base) base y (div-add-mod' y base) ∙ ap₂ ◌*◌ (div-add-mod' x base) (div-add-mod' y base)
  where
    go : (c r d s k z : ℕ) → d * k + s ≡ z → (c * z + d * r) * k + r * s ≡ (c * k + r) * (d * k + s)
    go c r d s k z e = rw (← e) (omega arith)

-- the sums of the digits multiplied: what is wanted of them, and what is to be taken off
pub crossed : (a1 a0 b1 b0 : ℕ) → (a1 + a0) * (b1 + b0) ≡ a1 * b1 + a0 * b0 + (a1 * b0 + a0 * b1)
crossed a1 a0 b1 b0 = omega arith

pub summed-room : (x y : ℕ) → x < 2 * base → y < 2 * base → x / base * y + y / base * (x % base) ≤ 3 * base
summed-room x y h k =
    go (x / base * y) (y / base * (x % base)) (x % base) (mul-le-mul_right y (upper x h)) (mul-le-mul_right (x % base) (upper y k)) k
    (omega arith)
  where
    upper : (z : ℕ) → z < 2 * base → z / base ≤ 1
    upper z h = omega arith

    go : (u v z : ℕ) → u ≤ 1 * y → v ≤ 1 * z → y < 2 * base → z < base → u + v ≤ 3 * base
    go u v z h k l n = omega arith

-- v and d less t and u, in two digits: w, the sign of d less u, is taken off the upper one
reached : (t u x v d w : ℕ) → t * base + u + x ≡ v * base + d → d < base → w ≡ 1 - (d + 1 - u) → t + w ≤ v
reached t u x v d w k l n = omega arith

less :
    (c t u x v d w : ℕ) → v ≡ c + w + t → t * base + u + x ≡ v * base + d → u < base → d < base → w ≡ 1 - (d + 1 - u)
    → c * base + (d + base - u) % base ≡ x
less c t u x v d w e k h l n = omega arith

back : (v t w : ℕ) → t + w ≤ v → v ≡ v - t - w + w + t
back v t w h = omega arith

-- p, and s without the digit that it carries: their upper digits, and what the lower ones carry
three_digits : (x y u v : ℕ) → x < base → y < base → u < base → v < base → x + y + (u + v) / base < 18446744073709551616
three_digits x y u v h k l n = omega arith

module _ (p s : ℕ) (top : p ≤ 18446744065119617025) (low : s ≤ 18446744065119617025) where
  upper : (x : ℕ) → x ≤ 18446744065119617025 → x / base < base
  upper x h = omega arith

  lower : (x : ℕ) → x % base < base
  lower x = omega arith

  pub three_fit : p / base + (s - s / base) / base + (p % base + (s - s / base) % base) / base < 18446744073709551616
  three_fit = three_digits _ _ _ _ (upper p top) (upper (s - s / base) (omega arith)) (lower p) (lower (s - s / base))

  pub two_fit : p / base + (s - s / base) / base < 18446744073709551616
  two_fit = lt_of_le_of_lt (le-add_right _ _) three_fit

-- p, s the upper and the lower product, m the middle sum; o and q are what the sums of the digits give
module _ (p s m o q : ℕ) (e : o * base + q ≡ p + s + m) where
  abbrev rest : ℕ
  rest = s - s / base

  abbrev off : ℕ
  off = p % base + rest % base

  abbrev taken : ℕ
  taken = p / base + rest / base + off / base

  parted : taken * base + off % base + (m + s / base) ≡ (o + q / base) * base + q % base
  parted = omega arith

  module _ (w : ℕ) (sign : w ≡ 1 - (q % base + 1 - off % base)) where
    abbrev carry : ℕ
    carry = o + q / base - taken - w

    abbrev digit : ℕ
    digit = (q % base + base - off % base) % base

    pub reaches : taken + w ≤ o + q / base
    reaches = reached taken (off % base) (m + s / base) (o + q / base) (q % base) w parted (omega arith) sign

    middle : carry * base + digit ≡ m + s / base
    middle =
        less carry taken (off % base) (m + s / base) (o + q / base) (q % base) w (back (o + q / base) taken w reaches) parted (omega arith)
        (omega arith) sign

    pub carry_room : m ≤ 36893488130239234050 → s ≤ 18446744065119617025 → carry ≤ 8589934590
    carry_room h k = go carry digit (m + s / base) middle (omega arith)
      where
        go : (c d x : ℕ) → c * base + d ≡ x → x ≤ 36893488134534201345 → c ≤ 8589934590
        go c d x k l = omega arith

    pub put_together : (p + carry) * 18446744073709551616 + (digit * base + s % base) ≡ p * 18446744073709551616 + m * base + s
    put_together = go carry digit (s / base) (s % base) middle (div-add-mod' s base)
      where
        go :
            (c d x y : ℕ) → c * base + d ≡ m + x → x * base + y ≡ s
            → (p + c) * 18446744073709551616 + (d * base + y) ≡ p * 18446744073709551616 + m * base + s
        go c d x y k l = omega arith
