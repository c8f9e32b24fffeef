-- `settled` meets its contract: q·n and a rest below n make the quotient's numerator and n, so that q is one more; one from n up to 2·n, and
-- it is the quotient. Assumes nothing.
use Rattle.std.proofs.Common.{◌≡◌, ℕ, zero, suc, ◌+◌, ◌-◌, ◌*◌, ◌/◌, ◌<◌, ◌≤◌, sym, ap, ◌∙◌, arith}
use lib.Arith.{digits_div}
use Rattle.logarithm.proofs.settled.Goals as goal

-- What a rest tells, of any number x in place of d·2^60.
module _ (n r x : ℕ) where
  not-zero : (q : ℕ) → q * n + r ≡ x + n → r < n → 1 ≤ q
  not-zero zero e i = omega arith
  not-zero (suc q) e i = omega arith

  one_less : (q : ℕ) → q * n + r ≡ x + n → r < n → q - 1 ≡ x / n
  one_less zero e i = omega arith
  one_less (suc q) e i =
      let sum : q * n + r ≡ x = omega arith in
      let quotient : q ≡ x / n = sym (digits_div q i) ∙ ap (λ (y : ℕ). y / n) sum in
      omega arith

  itself : (q : ℕ) → q * n + r ≡ x + n → n ≤ r → r < 2 * n → q ≡ x / n
  itself q e i j =
      let sum : q * n + (r - n) ≡ x = omega arith in
      let small : r - n < n = omega arith in
      sym (digits_div q small) ∙ ap (λ (y : ℕ). y / n) sum

pub overflow_sub-result : goal.overflow_sub-result
overflow_sub-result c = not-zero c.args.n c.args.rest _ c.args.q c.requires.0 c.if-rest-n.true

pub returns-then-rest-n : goal.returns-then-rest-n
returns-then-rest-n c =
    (one_less c.args.n c.args.rest _ c.args.q c.requires.0 c.if-rest-n.true, omega arith, omega arith)

pub returns-else-rest-n : goal.returns-else-rest-n
returns-else-rest-n c = (
  itself c.args.n c.args.rest _ c.args.q c.requires.0 (omega arith) c.requires.1,
  omega arith,
  omega arith,
)
