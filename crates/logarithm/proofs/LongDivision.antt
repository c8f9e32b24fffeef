-- d·2^60 / n by five digits, the first of 20 bits and four of 10. Assumes nothing.
use Rattle.std.proofs.Common.{◌≡◌, ℕ, zero, ◌+◌, ◌*◌, ◌/◌, ◌%◌, ◌^◌, ◌<◌, ap, ◌∙◌, ap₂, div-lt_iff_lt-mul, arith}
use Rattle.arith.proofs.Quotients.{next-digit, next-rest}

module _ (n : ℕ) (pn : zero < n) where
  two_digits : (x : ℕ) → x * 1024 * 1024 / n ≡ x / n * 1048576 + x % n * 1024 / n * 1024 + x % n * 1024 % n * 1024 / n
  two_digits x =
      next-digit n pn (x * 1024) 1024
      ∙ ap₂ ◌+◌ (ap (λ (y : ℕ). y * 1024) (next-digit n pn x 1024)) (ap (λ (y : ℕ). y * 1024 / n) (next-rest n pn x 1024))
      ∙ omega arith

  two_rests : (x : ℕ) → x * 1024 * 1024 % n ≡ x % n * 1024 % n * 1024 % n
  two_rests x = next-rest n pn (x * 1024) 1024 ∙ ap (λ (y : ℕ). y * 1024 % n) (next-rest n pn x 1024)

  pub five_digits :
      (d : ℕ) → let a = d * 1048576 in let b = a % n * 1024 in let c = b % n * 1024 in let e = c % n * 1024 in let f = e % n * 1024 in
      a / n * 1099511627776 + b / n * 1073741824 + c / n * 1048576 + e / n * 1024 + f / n ≡ d * 2 ^ 60 / n
  five_digits d =
      let a : ℕ = d * 1048576 in
      let x : ℕ = a * 1024 * 1024 in
      let e₁ : x / n ≡ a / n * 1048576 + a % n * 1024 / n * 1024 + a % n * 1024 % n * 1024 / n = two_digits a in
      let e₂ : x * 1024 * 1024 / n ≡ x / n * 1048576 + x % n * 1024 / n * 1024 + x % n * 1024 % n * 1024 / n = two_digits x in
      let e₃ : x % n ≡ a % n * 1024 % n * 1024 % n = two_rests a in
      let e₄ : x % n * 1024 / n ≡ a % n * 1024 % n * 1024 % n * 1024 / n = ap (λ (y : ℕ). y * 1024 / n) e₃ in
      let e₅ : x % n * 1024 % n * 1024 / n ≡ a % n * 1024 % n * 1024 % n * 1024 % n * 1024 / n =
      ap (λ (y : ℕ). y * 1024 % n * 1024 / n) e₃ in
      let e₆ : x * 1024 * 1024 / n ≡ d * 2 ^ 60 / n = ap (λ (y : ℕ). y / n) (omega arith) in
      omega arith

  pub quotient_small : (d : ℕ) → 512 * d < n → d * 2 ^ 60 / n < 2 ^ 51
  quotient_small d h = (div-lt_iff_lt-mul pn).1 (omega arith)
