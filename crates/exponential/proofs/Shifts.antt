-- What `locate` does by shifts: the size of a normal number in units of 2^-64, rounded down or up, as a point. Assumes nothing.
use Rattle.std.proofs.Common.{◌≡◌, ℕ, zero, suc, ◌+◌, ◌-◌, ◌*◌, ◌/◌, ◌%◌, ◌^◌, ◌<◌, ◌≤◌, Bool, true, false, cond, sym, ap, ◌∙◌, ap₂, le_trans, le_of_eq, lt_of_lt_of_le, le-add_right, not-suc-le-zero, mul-le-mul_right, mul_assoc, mul-le-mul, lt_of_not-le, not-le_of_lt, le_of_mul-le-mul_right, mul-div_cancel, arith, lit<, lit≤, pow_pos, pow_mono, pow-add, shl_exact}
use native.Mathlib.Nat.{mul-div-mul_right, div-eq_of_lt}
use native.Mathlib.Decide.{dec_le}
use lib.Arith.{digits_div}
use Rattle.arith.proofs.Quotients.{up_of_factor, up_of_positive}
use Rattle.double.specs.Fields.{mag}
use Rattle.exponential.specs.Steps.{home, raised, point_of, NormalFields}

-- ---- shifts

pub shifted_out : (m n : ℕ) → m < 2 ^ 64 → 64 ≤ n → 0 ≡ m / 2 ^ n
shifted_out m n h l = sym (div-eq_of_lt (lt_of_lt_of_le h (pow_mono l)))

-- below ½: 2^64·|x| is m·2048 / 2^(1022 - f), both over a common factor
module _ (j t : ℕ) (h : suc j < 1022) where
  over : mag (suc j) t * 2 ^ 64 ≡ (2 ^ 52 + t) * 2048 * 2 ^ (j + 53)
  unfolding mag
  over = rw (pow-add 2 j 53) (go (2 ^ j))
    where
      go : (x : ℕ) → (2 ^ 52 + t) * x * 2 ^ 64 ≡ (2 ^ 52 + t) * 2048 * (x * 2 ^ 53)
      go x = omega arith

  under : 2 ^ 1074 ≡ 2 ^ (1022 - suc j) * 2 ^ (j + 53)
  under = ap (λ (x : ℕ). 2 ^ x) (sum j h) ∙ pow-add 2 (1022 - suc j) (j + 53)
    where
      sum : (j : ℕ) → suc j < 1022 → 1074 ≡ 1022 - suc j + (j + 53)
      sum j h = omega arith

  down : (2 ^ 52 + t) * 2048 / 2 ^ (1022 - suc j) ≡ mag (suc j) t * 2 ^ 64 / 2 ^ 1074
  down =
      sym (mul-div-mul_right ((2 ^ 52 + t) * 2048) (2 ^ (1022 - suc j)) (pow_pos (j + 53)))
      ∙ ap (λ (x : ℕ). x / (2 ^ (1022 - suc j) * 2 ^ (j + 53))) (sym over) ∙ ap (λ (x : ℕ). mag (suc j) t * 2 ^ 64 / x) (sym under)

  up : ((2 ^ 52 + t) * 2048 - 1) / 2 ^ (1022 - suc j) + 1 ≡ (mag (suc j) t * 2 ^ 64 + (2 ^ 1074 - 1)) / 2 ^ 1074
  up =
      up_of_positive ((2 ^ 52 + t) * 2048) (2 ^ (1022 - suc j)) (positive t) (pow_pos (1022 - suc j))
      ∙ sym (up_of_factor ((2 ^ 52 + t) * 2048) (2 ^ (1022 - suc j)) (2 ^ (j + 53)) (pow_pos (1022 - suc j)) (pow_pos (j + 53)))
      ∙ ap (λ (x : ℕ). (x + (2 ^ (1022 - suc j) * 2 ^ (j + 53) - 1)) / (2 ^ (1022 - suc j) * 2 ^ (j + 53))) (sym over)
      ∙ ap (λ (x : ℕ). (mag (suc j) t * 2 ^ 64 + (x - 1)) / x) (sym under)
    where
      positive : (t : ℕ) → 0 < (2 ^ 52 + t) * 2048
      positive t = omega arith

-- from ½ on it is a whole number of 2048 units
whole_units : (j t : ℕ) → 1022 ≤ suc j → mag (suc j) t * 2 ^ 64 ≡ (2 ^ 52 + t) * 2 ^ (suc j - 1022) * 2048 * 2 ^ 1074
unfolding mag
whole_units j t h =
    ap (λ (x : ℕ). (2 ^ 52 + t) * x * 2 ^ 64) (ap (λ (x : ℕ). 2 ^ x) (sum j h) ∙ pow-add 2 (suc j - 1022) 1021)
    ∙ go (2 ^ (suc j - 1022)) (2 ^ 1021)
  where
    sum : (j : ℕ) → 1022 ≤ suc j → j ≡ suc j - 1022 + 1021
    sum j h = omega arith

    go : (x y : ℕ) → (2 ^ 52 + t) * (x * y) * 2 ^ 64 ≡ (2 ^ 52 + t) * x * 2048 * (y * 2 ^ 53)
    go x y = omega arith

-- ---- the fields' ranges

-- a size of at most 709 has a field up to 1032
pub field_most : (f t n : ℕ) → n ≤ 709 → mag f t ≤ n * 2 ^ 1074 → f ≤ 1032
unfolding mag
field_most zero t n hn h = lit≤ tt
field_most (suc f) t n hn h = pick (dec_le (suc f) 1032)
  where
    pick : Dec (suc f ≤ 1032) → suc f ≤ 1032
    pick (yes e) = e
    pick (no e) =
        absurd (not-le_of_lt (lit< tt)
        (le_trans (mul-le-mul (le-add_right (2 ^ 52) t) (pow_mono {i = 1032} (less (lt_of_not-le e))))
        (le_trans h (mul-le-mul_right (2 ^ 1074) hn))))
      where
        less : {g : ℕ} → 1032 < suc g → 1032 ≤ g
        less u = omega arith

end_of : (s : Bool) → cond s 708 709 ≤ 709
end_of true = lit≤ tt
end_of false = lit≤ tt

pub field_of_normal : (s : Bool) (f t : ℕ) → NormalFields s f t → f ≤ 1032
field_of_normal s f t h = field_most f t (cond s 708 709) (end_of s) h.most

-- nothing is shifted out at the top
pub shift_fits : (f t : ℕ) → 1022 ≤ f → f ≤ 1032 → t < 2 ^ 52 → (2 ^ 52 + t) * 2 ^ (f - 1022) % 2 ^ 64 ≡ (2 ^ 52 + t) * 2 ^ (f - 1022)
shift_fits f t l h ht = shl_exact 53 (f - 1022) 64 (digits t ht) (room f h)
  where
    digits : (t : ℕ) → t < 2 ^ 52 → 2 ^ 52 + t < 2 ^ 53
    digits t h = omega arith

    room : (f : ℕ) → f ≤ 1032 → 53 + (f - 1022) ≤ 64
    room f h = omega arith

-- from ½ on: the units are at most 708 or 709 times 2^53
pub units-most : (f t n : ℕ) → 1022 ≤ f → mag f t ≤ n * 2 ^ 1074 → (2 ^ 52 + t) * 2 ^ (f - 1022) ≤ n * 2 ^ 53
units-most zero t n l h = absurd (not-suc-le-zero l)
units-most (suc j) t n l h =
    le_of_mul-le-mul_right {k = 2048 * 2 ^ 1074}
    (le_trans (le_of_eq (sym (mul_assoc ((2 ^ 52 + t) * 2 ^ (suc j - 1022)) 2048 (2 ^ 1074)) ∙ sym (whole_units j t l)))
    (le_trans (mul-le-mul_right (2 ^ 64) h) (le_of_eq (go n (2 ^ 1074))))) (lit< tt)
  where
    go : (n x : ℕ) → n * x * 2 ^ 64 ≡ n * 2 ^ 53 * (2048 * x)
    go n x = omega arith

-- ---- the points

up_point : (s : ℕ) → record { whole = home + s / 2048; part = s % 2048 } ≡ point_of (home * 2048 + s)
unfolding point_of
up_point s = ap₂ (λ (x y : ℕ). record { whole = x; part = y }) (omega arith) (omega arith)

down_point : (s : ℕ) → s < 2 ^ 64 → record { whole = home - 1 - s / 2048; part = 2047 - s % 2048 } ≡ point_of (home * 2048 - (s + 1))
unfolding point_of
down_point s h = ap₂ (λ (x y : ℕ). record { whole = x; part = y }) (omega arith) (omega arith)

up_whole_point : (n : ℕ) → record { whole = home + n; part = 0 } ≡ point_of (home * 2048 + n * 2048)
unfolding point_of
up_whole_point n = ap₂ (λ (x y : ℕ). record { whole = x; part = y }) (omega arith) (omega arith)

down_whole_point : (n : ℕ) → n ≤ home → record { whole = home - n; part = 0 } ≡ point_of (home * 2048 - n * 2048)
unfolding point_of
down_whole_point n h = ap₂ (λ (x y : ℕ). record { whole = x; part = y }) (omega arith) (omega arith)

-- ---- the four answers of `locate`

pub low_positive : (f t s : ℕ) → 1 ≤ f → f < 1022 → s ≡ (2 ^ 52 + t) * 2048 / 2 ^ (1022 - f)
    → record { whole = home + s / 2048; part = s % 2048 } ≡ point_of (raised false (mag f t) (2 ^ 1074))
unfolding raised
low_positive zero t s l h e = absurd (not-suc-le-zero l)
low_positive (suc j) t s l h e = up_point s ∙ ap (λ (x : ℕ). point_of (home * 2048 + x)) (e ∙ down j t h)

pub low_negative : (f t s : ℕ) → 1 ≤ f → f < 1022 → s < 2 ^ 64 → s ≡ ((2 ^ 52 + t) * 2048 - 1) / 2 ^ (1022 - f)
    → record { whole = home - 1 - s / 2048; part = 2047 - s % 2048 } ≡ point_of (raised true (mag f t) (2 ^ 1074))
unfolding raised
low_negative zero t s l h b e = absurd (not-suc-le-zero l)
low_negative (suc j) t s l h b e = down_point s b ∙ ap (λ (x : ℕ). point_of (home * 2048 - x)) (ap (λ (x : ℕ). x + 1) e ∙ up j t h)

pub high_positive : (f t n : ℕ) → 1022 ≤ f → n ≡ (2 ^ 52 + t) * 2 ^ (f - 1022)
    → record { whole = home + n; part = 0 } ≡ point_of (raised false (mag f t) (2 ^ 1074))
unfolding raised
high_positive zero t n l e = absurd (not-suc-le-zero l)
high_positive (suc j) t n l e =
    up_whole_point n
    ∙ ap (λ (x : ℕ). point_of (home * 2048 + x))
    (ap (λ (x : ℕ). x * 2048) e ∙ sym (ap (λ (x : ℕ). x / 2 ^ 1074) (whole_units j t l)
    ∙ mul-div_cancel ((2 ^ 52 + t) * 2 ^ (suc j - 1022) * 2048) (pow_pos 1074)))

pub high_negative : (f t n : ℕ) → 1022 ≤ f → n ≤ home → n ≡ (2 ^ 52 + t) * 2 ^ (f - 1022)
    → record { whole = home - n; part = 0 } ≡ point_of (raised true (mag f t) (2 ^ 1074))
unfolding raised
high_negative zero t n l h e = absurd (not-suc-le-zero l)
high_negative (suc j) t n l h e =
    down_whole_point n h
    ∙ ap (λ (x : ℕ). point_of (home * 2048 - x))
    (ap (λ (x : ℕ). x * 2048) e
    ∙ sym (ap (λ (x : ℕ). (x + (2 ^ 1074 - 1)) / 2 ^ 1074) (whole_units j t l)
    ∙ digits_div ((2 ^ 52 + t) * 2 ^ (suc j - 1022) * 2048) {m = 2 ^ 1074} {r = 2 ^ 1074 - 1} (lit< tt)))
