-- Numbers that shrink by a ratio at each step: after K steps, where 2 * R ^ K is Q ^ K at most, a number has halved, so it has a binary
-- digit less. Assumes nothing.
use mathlib.Core.Path.{◌≡◌, sym, ap, ◌∙◌, subst}
use Prim.Native.Nat.{ℕ, zero, suc, ◌+◌, ◌-◌, ◌*◌, ◌^◌, ◌≤◌, ◌<◌}
use native.Mathlib.Nat.{le_refl, le_trans, le_of_eq, lt_of_le_of_lt, lt_of_lt_of_le, lt_of_not-le, not-le_of_lt, mul_comm, mul_assoc}
use native.Mathlib.Nat.{mul_left_comm, mul_right_comm, mul-le-mul_right, mul-le-mul_left, le_of_mul-le-mul_right, mul-suc, mul-zero}
use native.Mathlib.Nat.{add-suc, add-zero, pow-suc, pow-zero}
use native.Mathlib.Omega.{arith}
use lib.Pow.{pow_mono}
use lib.Ieee.{size}
use lib.Ieee.Digits.{size-lt, size_reaches, size-le}

-- each of the first k steps leaves at most R / Q of the number
abbrev pub Shrinks : (ℕ → ℕ) → ℕ → ℕ → ℕ → Type 0
Shrinks u Q R k = (i : ℕ) → i < k → u (suc i) * Q ≤ u i * R

pub shrinks_by_power : (u : ℕ → ℕ) (Q R k : ℕ) → Shrinks u Q R k → u k * Q ^ k ≤ u 0 * R ^ k
shrinks_by_power u Q R zero h = le_of_eq (ap (λ (z : ℕ). u 0 * z) (pow-zero Q ∙ sym (pow-zero R)))
shrinks_by_power u Q R (suc k) h =
    let a : u (suc k) * Q * Q ^ k ≤ u k * R * Q ^ k = mul-le-mul_right (Q ^ k) (h k (le_refl (suc k))) in
    let b : u k * Q ^ k * R ≤ u 0 * R ^ k * R = mul-le-mul_right R (shrinks_by_power u Q R k (λ i l. h i (more i k l))) in
    let c : u (suc k) * Q ^ suc k ≡ u (suc k) * Q * Q ^ k = ap (λ (z : ℕ). u (suc k) * z) (pow-suc Q k ∙ mul_comm (Q ^ k) Q)
    ∙ sym (mul_assoc (u (suc k)) Q (Q ^ k)) in
    let d : u k * R * Q ^ k ≡ u k * Q ^ k * R = mul_right_comm (u k) R (Q ^ k) in
    let e : u 0 * R ^ suc k ≡ u 0 * R ^ k * R = ap (λ (z : ℕ). u 0 * z) (pow-suc R k) ∙ sym (mul_assoc (u 0) (R ^ k) R) in
    omega arith
  where
    more : (i k : ℕ) → i < k → i < suc k
    more i k l = omega arith

pub halves : (u : ℕ → ℕ) (Q R k : ℕ) → 0 < Q ^ k → 2 * R ^ k ≤ Q ^ k → Shrinks u Q R k → 2 * u k ≤ u 0
halves u Q R k P h s =
    let a : 2 * (u k * Q ^ k) ≤ 2 * (u 0 * R ^ k) = mul-le-mul_left 2 (shrinks_by_power u Q R k s) in
    let b : u 0 * (2 * R ^ k) ≤ u 0 * Q ^ k = mul-le-mul_left (u 0) h in
    le_of_mul-le-mul_right (le_trans (le_of_eq (mul_assoc 2 (u k) (Q ^ k)))
    (le_trans a (le_trans (le_of_eq (mul_left_comm 2 (u 0) (R ^ k))) b))) P

-- ---- binary digits

pub size-pos : (n : ℕ) → 0 < n → 0 < size n
size-pos n h = lt_of_not-le (λ (g : size n ≤ 0). not-le_of_lt (lt_of_lt_of_le (size-lt n) (pow_mono g)) h)

pub size_mono : (a b : ℕ) → a ≤ b → size a ≤ size b
size_mono a b h = size-le a (size b) (lt_of_le_of_lt h (size-lt b))

-- a number that is at most half of another has a digit less
pub size_half : (a b : ℕ) → 0 < a → 2 * a ≤ b → suc (size a) ≤ size b
size_half a b A h = lt_of_not-le (λ (g : size b ≤ size a). clash g)
  where
    back : (z : ℕ) → 0 < z → suc (z - 1) ≡ z
    back z h = omega arith

    last : (z : ℕ) → 0 < z → z - 1 < z
    last z h = omega arith

    clash : size b ≤ size a → ⊥
    clash g =
        let z = size a in
        let Z = size-pos a A in
        let p : 2 ^ (z - 1) * 2 ≤ a * 2 = mul-le-mul_right 2 (size_reaches a (z - 1) (last z Z)) in
        let q : 2 ^ z ≡ 2 ^ (z - 1) * 2 = ap (λ (k : ℕ). 2 ^ k) (sym (back z Z)) ∙ pow-suc 2 (z - 1) in
        let r : b < 2 ^ z = lt_of_lt_of_le (size-lt b) (pow_mono g) in
        omega arith

-- K steps take a digit, so K * t steps take t
pub digits_fall :
    (u : ℕ → ℕ) (Q R K t : ℕ) → 0 < Q ^ K → 2 * R ^ K ≤ Q ^ K → Shrinks u Q R (K * t) → ((i : ℕ) → i ≤ K * t → 0 < u i)
    → size (u (K * t)) + t ≤ size (u 0)
digits_fall u Q R K zero P h s p = le_of_eq (add-zero (size (u (K * 0))) ∙ ap (λ (z : ℕ). size (u z)) (mul-zero K))
digits_fall u Q R K (suc t) P h s p =
    let e : K * suc t ≡ K * t + K = mul-suc K t in
    let ih : size (u (K * t)) + t ≤ size (u 0) = digits_fall u Q R K t P h (λ i l. s i (below i K t l e)) (λ i l. p i (upto i K t l e)) in
    let v : ℕ → ℕ = λ (i : ℕ). u (K * t + i) in
    let sv : Shrinks v Q R K = λ i l. subst (λ (z : ℕ). u z * Q ≤ u (K * t + i) * R) (sym (add-suc (K * t) i))
    (s (K * t + i) (shift i K t l e)) in
    let a : 2 * u (K * t + K) ≤ u (K * t + 0) = halves v Q R K P h sv in
    let b : suc (size (u (K * t + K))) ≤ size (u (K * t)) = size_half (u (K * t + K)) (u (K * t)) (p (K * t + K) (le_of_eq (sym e)))
    (subst (λ (z : ℕ). 2 * u (K * t + K) ≤ u z) (add-zero (K * t)) a) in
    subst (λ (z : ℕ). size (u z) + suc t ≤ size (u 0)) (sym e) (omega arith)
  where
    below : (i K t : ℕ) {x : ℕ} → i < K * t → x ≡ K * t + K → i < x
    below i K t l e = omega arith

    upto : (i K t : ℕ) {x : ℕ} → i ≤ K * t → x ≡ K * t + K → i ≤ x
    upto i K t l e = omega arith

    shift : (i K t : ℕ) {x : ℕ} → i < K → x ≡ K * t + K → K * t + i < x
    shift i K t l e = omega arith
