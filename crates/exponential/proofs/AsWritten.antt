-- The sum by Horner's rule is the sum of forty terms as document 01 writes it. Assumes nothing.
use Rattle.std.proofs.Common.{◌≡◌, ℕ, zero, suc, ◌+◌, ◌-◌, ◌*◌, ◌^◌, ◌<◌, Bool, eqb, sym, ap, ◌∙◌, pow-suc, zero-add, mul-one, arith, lit<, eqb→eq}
use native.Mathlib.Nat.{pow-zero}
use Rattle.arith.proofs.Tables.{every, at_index}
use Rattle.exponential.specs.Sum.{factorial, share, sum_to, sum_num}
use Rattle.exponential.proofs.Horner.{last_terms}

-- 39!/i! is a whole number, so that share i / 39! is 1/i!
whole_share : ℕ → Bool
unfolding share
whole_share i = eqb (share i * factorial i) (factorial 39)

pub share_exact : (i : ℕ) → i < 40 → share i * factorial i ≡ factorial 39
unfolding whole_share every
share_exact i h = eqb→eq _ _ (at_index whole_share 40 tt i h)

module _ (p q : ℕ) where
  regroup : (s w u t v : ℕ) → s + (w * u + p * t) * v ≡ (s + w * v * u) + t * (v * p)
  regroup s w u t v = omega arith

  -- the first 39 - d terms and the last_terms at d make the whole sum
  first_and_last : (d : ℕ) → d < 40 → sum_to p q (39 - d) + last_terms p q d * p ^ (39 - d) ≡ sum_num p q
  unfolding last_terms sum_to share factorial
  first_and_last zero h = ap (λ (x : ℕ). sum_to p q 39 + x) (sym (mul-one (1 * p ^ 39)) ∙ ap (λ (x : ℕ). 1 * p ^ 39 * x) (sym (pow-zero q)))
  first_and_last (suc d) h =
      let e : 39 - suc d ≡ 38 - d = omega arith in
      let f : 39 - d ≡ suc (38 - d) = omega arith in
      let g : 39 - (38 - d) ≡ suc d = omega arith in
      ap (λ (n : ℕ). sum_to p q n + last_terms p q (suc d) * p ^ n) e
      ∙ regroup (sum_to p q (38 - d)) (share (38 - d)) (q ^ suc d) (last_terms p q d) (p ^ (38 - d))
      ∙ ap (λ (n : ℕ). sum_to p q (38 - d) + share (38 - d) * p ^ (38 - d) * q ^ n + last_terms p q d * (p ^ (38 - d) * p)) (sym g)
      ∙ ap (λ (n : ℕ). sum_to p q (suc (38 - d)) + last_terms p q d * n) (sym (pow-suc p (38 - d)))
      ∙ ap (λ (n : ℕ). sum_to p q n + last_terms p q d * p ^ n) (sym f)
      ∙ first_and_last d (omega arith)

  pub last_terms_are_sum : last_terms p q 39 ≡ sum_num p q
  unfolding sum_to
  last_terms_are_sum =
      sym (zero-add (last_terms p q 39 * p ^ 0) ∙ ap (λ (x : ℕ). last_terms p q 39 * x) (pow-zero p) ∙ mul-one (last_terms p q 39))
      ∙ first_and_last 39 (lit< tt)
