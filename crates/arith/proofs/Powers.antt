-- Powers, and how they compare: the first ones as products, powers of a product, a power with a doubled exponent, and how much a power
-- grows with its base. Not here: powers of 2 (lib.Pow), orders of powers (native.Mathlib.Nat). Assumes nothing.
use mathlib.Core.Path.{◌≡◌, ap, ◌∙◌}
use Prim.Native.Nat.{ℕ, zero, suc, ◌+◌, ◌*◌, ◌^◌, ◌≤◌}
use native.Mathlib.Nat.{pow-zero, pow-suc, one-mul, mul_assoc, mul-le-mul_left, mul-le-mul_right, pow-le-pow_left, le-add_right, add-suc}
use native.Mathlib.Nat.{suc-add}
use native.Mathlib.Omega.{arith}

pub pow-one : (p : ℕ) → p ^ 1 ≡ p
pow-one p = pow-suc p 0 ∙ ap (λ (x : ℕ). x * p) (pow-zero p) ∙ one-mul p

-- two factors more, grouped as a square
pow_and_two : (p n : ℕ) {x : ℕ} → p ^ n ≡ x → p ^ suc (suc n) ≡ x * (p * p)
pow_and_two p n {x} e =
    pow-suc p (suc n) ∙ ap (λ (y : ℕ). y * p) (pow-suc p n ∙ ap (λ (y : ℕ). y * p) e) ∙ mul_assoc x p p

pub pow-three : (p : ℕ) → p ^ 3 ≡ p * (p * p)
pow-three p = pow_and_two p 1 (pow-one p)

pub pow_five : (p : ℕ) → p ^ 5 ≡ p * (p * p) * (p * p)
pow_five p = pow_and_two p 3 (pow-three p)

pub pow_seven : (p : ℕ) → p ^ 7 ≡ p * (p * p) * (p * p) * (p * p)
pow_seven p = pow_and_two p 5 (pow_five p)

pub pow_double_suc : (p n : ℕ) → p ^ (suc n + suc n) ≡ p ^ (n + n) * (p * p)
pow_double_suc p n =
    ap (λ (x : ℕ). p ^ x) (suc-add n (suc n) ∙ ap suc (add-suc n n)) ∙ pow-suc p (suc (n + n)) ∙ ap (λ (x : ℕ). x * p) (pow-suc p (n + n))
    ∙ mul_assoc (p ^ (n + n)) p p

pub pow_of_product : (a b n : ℕ) → (a * b) ^ n ≡ a ^ n * b ^ n
pow_of_product a b zero = omega (arith, pow-zero (a * b), pow-zero a, pow-zero b, ap (λ (x : ℕ). x * b ^ 0) (pow-zero a))
pow_of_product a b (suc n) = rw (pow-suc (a * b) n, pow-suc a n, pow-suc b n, pow_of_product a b n) (omega arith)

-- The mean value law without division: (p + e)^(n+1) - p^(n+1) lies between (n+1) e p^n and (n+1) e (p+e)^n.
pub pow_grows_at_most : (p e n : ℕ) → (p + e) ^ suc n ≤ p ^ suc n + suc n * (e * (p + e) ^ n)
pow_grows_at_most p e zero = omega (arith, pow-one p, pow-one (p + e), ap (λ (x : ℕ). e * x) (pow-zero (p + e)))
pow_grows_at_most p e (suc n) =
    rw (pow-suc (p + e) (suc n), pow-suc p (suc n))
    (omega (
      arith,
      mul-le-mul_right (p + e) (pow_grows_at_most p e n),
      mul-le-mul_left e (pow-le-pow_left (le-add_right p e) (suc n)),
      ap (λ (x : ℕ). suc n * (e * x)) (pow-suc (p + e) n),
    ))

pub pow_grows_at_least : (p e n : ℕ) → p ^ suc n + suc n * (e * p ^ n) ≤ (p + e) ^ suc n
pow_grows_at_least p e zero = omega (arith, pow-one p, pow-one (p + e), ap (λ (x : ℕ). e * x) (pow-zero p))
pow_grows_at_least p e (suc n) =
    rw (pow-suc (p + e) (suc n), pow-suc p (suc n))
    (omega (arith, mul-le-mul_right (p + e) (pow_grows_at_least p e n), ap (λ (x : ℕ). suc n * (e * x)) (pow-suc p n)))
