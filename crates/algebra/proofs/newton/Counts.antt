-- What the round count means, by going through the rounds that are left. Assumes nothing.
use Rattle.std.proofs.Common.{◌≡◌, ℕ, zero, suc, ◌+◌, ◌<◌, Bool, true, false, cond, sym, refl, ap, ◌∙◌, inl, inr, arith, below_more}
use lib.Ieee.{Float}
use Rattle.arith.proofs.Turns.{iter-none, iter-next}
use Rattle.double.specs.Operators.{◌⊕◌}
use Rattle.algebra.specs.declared.newton.Solved.{Solved}
use Rattle.algebra.specs.newton.Rounds.{stops_at, dx_of, rounds, newton_of, after, Counted}

module _ (f0 f1 : Float → Float) (x0 : Float) where
  abbrev Goes : ℕ → Type 0
  Goes n = (k : ℕ) → k < n → stops_at f0 f1 (after f0 f1 x0 k) ≡ false

  -- the round at x stops there, with n before it
  stopped :
      (n : ℕ) (x : Float) → n < 100 → x ≡ after f0 f1 x0 n → Goes n → stops_at f0 f1 x ≡ true
      → Counted f0 f1 x0 (record { x = x; rounds = n + 1 })
  stopped n x h e g t =
      record {
        steps = n;
        went_on = g;
        point = e;
        ended = inl (h, ap (stops_at f0 f1) (sym e) ∙ t, refl);
        least = omega arith;
        most = omega arith;
      }

  -- what a round answers, whichever way its test goes
  by-test : (b : Bool) (r s : Solved) → (b ≡ true → Counted f0 f1 x0 r) → (b ≡ false → Counted f0 f1 x0 s) → Counted f0 f1 x0 (cond b r s)
  by-test true r s p q = p refl
  by-test false r s p q = q refl

  -- n rounds went on, and there are `left` more
  counted-from : (left n : ℕ) (x : Float) → left + n ≡ 100 → x ≡ after f0 f1 x0 n → Goes n → Counted f0 f1 x0 (rounds f0 f1 left n x)
  unfolding rounds
  counted-from zero n x h e g =
      record { steps = n; went_on = g; point = e; ended = inr (omega arith, omega arith); least = omega arith; most = omega arith }
  counted-from (suc left) n x h e g =
      by-test (stops_at f0 f1 x) _ _ (stopped n x (omega arith) e g)
      (λ t. counted-from left (n + 1) (x ⊕ dx_of f0 f1 x) (omega arith) (iter-next _ _ _ e)
      (below_more _ _ g (ap (stops_at f0 f1) (sym e) ∙ t)))

  pub counted : Counted f0 f1 x0 (newton_of f0 f1 x0)
  unfolding newton_of
  counted = counted-from 100 0 x0 refl (iter-none _ _) (λ k h. absurd (omega arith))
