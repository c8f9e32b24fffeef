-- One turn of `digit_by_digit`, which finds one digit of the root, and what holds after the last. Assumes nothing.
use mathlib.Core.Path.{◌≡◌, sym, ap, ◌∙◌}
use mathlib.Core.Bool.{cond}
use Prim.Native.Nat.{ℕ, ◌+◌, ◌-◌, ◌*◌, ◌/◌, ◌%◌, ◌^◌, ◌≤◌, ◌<◌}
use native.Mathlib.Nat.{mul_assoc, mul_comm, pow-suc, lt_of_lt_of_le}
use native.Mathlib.Numerals.{add-one}
use native.Mathlib.Omega.{arith}
use lib.Dec.{ltb}
use lib.Pow.{pow_mono}
use Rattle.root.specs.Steps.{near_root}
use Rattle.root.proofs.RoundedRoots.{by-rest}

-- The state after i turns on the number m * 2^64. The digits passed, and rest, which has those still to come at the top of 64 bits, are m *
-- 4^i:
-- said in this way no shift depends on i.
pub record Turn (m i root rem rest : ℕ) : Type 0 where
  pub held : (root * root + rem) * 2 ^ 64 + rest ≡ m * 4 ^ i
  pub small : rem ≤ 2 * root
  pub short : root < 2 ^ i
  pub left : rest < 2 ^ 64
  pub count : i ≤ 53

pub root_lt : {m i root rem rest : ℕ} → Turn m i root rem rest → root < 2 ^ 53
root_lt t = lt_of_lt_of_le t.short (pow_mono t.count)

pub start : (m : ℕ) → m < 2 ^ 54 → Turn (m * 1024) 0 0 0 (m * 1024 % 2 ^ 64)
start m h = record { held = omega arith; small = omega arith; short = omega arith; left = omega arith; count = omega arith }

module _ {m i root rem rest : ℕ} (t : Turn m i root rem rest) (more : i < 53) where
  four : m * 4 ^ (i + 1) ≡ 4 * (m * 4 ^ i)
  four = ap (λ (k : ℕ). m * 4 ^ k) (add-one i) ∙ ap (λ (k : ℕ). m * k) (pow-suc 4 i) ∙ sym (mul_assoc m (4 ^ i) 4) ∙ mul_comm (m * 4 ^ i) 4

  two : 2 ^ (i + 1) ≡ 2 ^ i * 2
  two = ap (λ (k : ℕ). 2 ^ k) (add-one i) ∙ pow-suc 2 i

  -- the digit 1
  pub set :
      root * 4 + 1 ≤ rem * 4 + rest / 2 ^ 62 → Turn m (i + 1) (root * 2 + 1) (rem * 4 + rest / 2 ^ 62 - (root * 4 + 1)) (rest * 4 % 2 ^ 64)
  set h =
      record { held = omega (arith, four); small = omega arith; short = omega (arith, two); left = omega arith; count = omega arith }

  -- the digit 0
  pub clear : rem * 4 + rest / 2 ^ 62 < root * 4 + 1 → Turn m (i + 1) (root * 2) (rem * 4 + rest / 2 ^ 62) (rest * 4 % 2 ^ 64)
  clear h =
      record { held = omega (arith, four); small = omega arith; short = omega (arith, two); left = omega arith; count = omega arith }

-- after the last turn no digit is to come
passed : (m root rem rest : ℕ) → (root * root + rem) * 2 ^ 64 + rest ≡ m * 1024 * 4 ^ 53 → rest < 2 ^ 64 → root * root + rem ≡ m * 2 ^ 52
passed m root rem rest a d = omega arith

held_lt : (m : ℕ) → m < 2 ^ 54 → m * 2 ^ 52 < 4 ^ 53
held_lt m h = omega arith

-- so root is the whole root, and rem the rest that decides the rounding
pub ended :
    (m root rem rest : ℕ) → m < 2 ^ 54 → Turn (m * 1024) 53 root rem rest → near_root (m * 2 ^ 52) ≡ cond (ltb root rem) (root + 1) root
ended m root rem rest h t = by-rest (m * 2 ^ 52) root rem (passed m root rem rest t.held t.left) t.small (held_lt m h)
