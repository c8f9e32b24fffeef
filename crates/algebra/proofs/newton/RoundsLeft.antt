-- How the rounds go on, stop and end when i of the hundred are done, in the words of the loop: what f1, f0 and the stop test answered.
-- Assumes nothing.
use Rattle.std.proofs.Common.{◌≡◌, ℕ, suc, ◌+◌, ◌-◌, ◌<◌, Bool, true, false, sym, refl, ap, ◌∙◌, arith}
use lib.Ieee.{Float, neg}
use Rattle.double.specs.Operators.{◌⊕◌, ◌⊘◌}
use Rattle.algebra.specs.newton.Rounds.{stops_of, stops_at, dx_of, rounds}

module _ (f0 f1 : Float → Float) (x : Float) (n i : ℕ) where
  pub one_stops : stops_at f0 f1 x ≡ true → rounds f0 f1 (suc n) i x ≡ record { x = x; rounds = i + 1 }
  unfolding rounds
  one_stops h = simp h

  pub one_goes : stops_at f0 f1 x ≡ false → rounds f0 f1 (suc n) i x ≡ rounds f0 f1 n (i + 1) (x ⊕ dx_of f0 f1 x)
  unfolding rounds
  one_goes h = simp h

module _ (f0 f1 : Float → Float) (x dfdx fx : Float) (b : Bool) (slope : dfdx ≡ f1 x) (value : fx ≡ f0 x)
    (test : b ≡ stops_of x (neg fx ⊘ dfdx) dfdx) (i : ℕ) (h : i < 100) where
  one_less : 100 - i ≡ suc (100 - (i + 1))
  one_less = omega arith

  stops_as : b ≡ stops_at f0 f1 x
  stops_as = rw (← value, ← slope) test

  pub halts : (r : ℕ) → r ≡ i + 1 → b ≡ true → record { x = x; rounds = r } ≡ rounds f0 f1 (100 - i) i x
  halts r k t =
      let e = one_stops f0 f1 x (100 - (i + 1)) i (sym stops_as ∙ t) in
      ap (λ (n : ℕ). record { x = x; rounds = n }) k ∙ sym (ap (λ (n : ℕ). rounds f0 f1 n i x) one_less ∙ e)

  pub goes : b ≡ false → rounds f0 f1 (100 - (i + 1)) (i + 1) (x ⊕ neg fx ⊘ dfdx) ≡ rounds f0 f1 (100 - i) i x
  goes t =
      let e = one_goes f0 f1 x (100 - (i + 1)) i (sym stops_as ∙ t) in
      rw (value, slope) (sym (ap (λ (n : ℕ). rounds f0 f1 n i x) one_less ∙ e))

pub ends : (f0 f1 : Float → Float) (x : Float) (i : ℕ) → i ≡ 100 → record { x = x; rounds = 100 } ≡ rounds f0 f1 (100 - i) i x
unfolding rounds
ends f0 f1 x i h = rw h refl
