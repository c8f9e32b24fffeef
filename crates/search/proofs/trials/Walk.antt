-- The search followed along its trials: where it stands before each test, and what it hands back from there. Assumes nothing.
-- `Reached` is also the invariant of the loop in the code, and `reached-under` its measure: the trials reached are fewer than `bound`.
use mathlib.Core.Path.{◌≡◌, refl, sym, ap, ◌∙◌, subst}
use mathlib.Core.Logic.{inl, inr}
use mathlib.Core.Bool.{Bool, true, false}
use Prim.Native.Nat.{ℕ, zero, suc, ◌+◌, ◌-◌, ◌<◌}
use native.Mathlib.Nat.{zero-add, add-suc, suc-add, le_refl, le_step, le_of_suc-le-suc, eq-or-lt_of_le, le-suc_iff}
use native.Mathlib.Omega.{arith}
use lib.Ieee.{Float}
use Rattle.double.specs.Operators.{◌⊗◌, ◌≺◌}
use Rattle.search.specs.trials.Trials.{trial, Allowed, bound, Usable}
use Rattle.search.specs.trials.Search.{Problem, Outcome, passes_at, cut_after, hit, miss, scan, search_of}
use Rattle.search.proofs.trials.Trials.{under-bound}

abbrev pub trial_of : Problem → ℕ → Float
trial_of P k = trial P.how k

-- where the search stands before the test of its trial α, the one numbered n
pub record Reached (P : Problem) (n : ℕ) (α : Float) : Type 0 where
  pub is : α ≡ trial_of P n
  pub allowed : Allowed P.how n
  pub failed : (k : ℕ) → k < n → passes_at P (trial_of P k) ≡ false

pub reached_start : (P : Problem) → Reached P 0 P.how.start
unfolding trial
reached_start P = record { is = refl; allowed = λ j p l. absurd (omega arith); failed = λ k l. absurd (omega arith) }

-- what holds below n, and at n, holds below suc n
pub below_suc : (C : ℕ → Type 0) (n : ℕ) → ((k : ℕ) → k < n → C k) → C n → (k : ℕ) → k < suc n → C k
below_suc C n h e k l = elim (eq-or-lt_of_le (le_of_suc-le-suc l)) [ inl p ↦ subst C (sym p) e | inr p ↦ h k p ]

module _ (P : Problem) (n : ℕ) (α : Float) where
  -- the test failed, and the next trial is not cut
  pub reached_next : Reached P n α → passes_at P α ≡ false → cut_after P α ≡ false → Reached P (suc n) (α ⊗ P.how.step)
  unfolding trial
  reached_next r f c = record {
    is = ap (λ (z : Float). z ⊗ P.how.step) r.is;
    allowed = λ j p l.
        let uncut = subst (λ (z : Float). cut_after P z ≡ false) r.is c in
        elim (le-suc_iff.0 l) [
          | inl k ↦ r.allowed j p k
          | inr e ↦ subst (λ (z : ℕ). (trial_of P z ≺ P.how.smallest) ≡ false) (sym e) uncut
        ];
    failed =
        below_suc (λ (k : ℕ). passes_at P (trial_of P k) ≡ false) n r.failed (subst (λ (z : Float). passes_at P z ≡ false) r.is f);
  }

  pub reached_under : Usable P.how → Reached P n α → n < bound P.how
  reached_under ok r = under-bound P.how ok n r.allowed

-- the definition from its trial α on, the one numbered n, with f trials more at most
abbrev from : Problem → ℕ → Float → ℕ → Outcome
from P f α n = scan P f (passes_at P α) (cut_after P α) α n

-- the definition, followed to the trial n
walk : (P : Problem) (n f : ℕ) → Allowed P.how n → ((k : ℕ) → k < n → passes_at P (trial_of P k) ≡ false)
    → from P (n + f) P.how.start 0 ≡ from P f (trial_of P n) n
unfolding scan trial
walk P zero f a h = ap (λ (z : ℕ). from P z P.how.start 0) (zero-add f)
walk P (suc n) f a h =
    ap (λ (z : ℕ). from P z P.how.start 0) (suc-add n f ∙ sym (add-suc n f))
    ∙ walk P n (suc f) (λ j p l. a j p (le_step l)) (λ k l. h k (le_step l))
    ∙ ap (λ (b : Bool). scan P (suc f) b (cut_after P (trial_of P n)) (trial_of P n) n) (h n (le_refl (suc n)))
    ∙ ap (λ (b : Bool). scan P (suc f) false b (trial_of P n) n) (a (suc n) (omega arith) (le_refl (suc n)))

module _ (P : Problem) (n : ℕ) (α : Float) (ok : Usable P.how) (r : Reached P n α) where
  -- the trials that are left
  fuel : ℕ
  fuel = bound P.how - suc n

  from-here : search_of P ≡ from P (suc fuel) α n
  unfolding search_of fuel
  from-here =
      ap (λ (z : ℕ). from P z P.how.start 0) (sym (split (bound P.how) n (reached_under P n α ok r)))
      ∙ walk P n (suc (bound P.how - suc n)) r.allowed r.failed
      ∙ ap (λ (z : Float). from P (suc (bound P.how - suc n)) z n) (sym r.is)
    where
      split : (b n : ℕ) → n < b → n + suc (b - suc n) ≡ b
      split b n h = omega arith

  pub is-hit : passes_at P α ≡ true → search_of P ≡ hit P α n
  unfolding scan
  is-hit p = from-here ∙ ap (λ (b : Bool). scan P (suc fuel) b (cut_after P α) α n) p

  pub is-miss : passes_at P α ≡ false → cut_after P α ≡ true → search_of P ≡ miss P n
  unfolding scan
  is-miss p c =
      from-here ∙ ap (λ (b : Bool). scan P (suc fuel) b (cut_after P α) α n) p ∙ ap (λ (b : Bool). scan P (suc fuel) false b α n) c

-- The search ends at a trial n that is reached: it passes and is handed back, or it fails and the next is cut.
pub data Ended (P : Problem) : Type 0 where
  passed : (n : ℕ) → Reached P n (trial_of P n) → passes_at P (trial_of P n) ≡ true → search_of P ≡ hit P (trial_of P n) n → Ended P
  failed : (n : ℕ) → Reached P n (trial_of P n) → passes_at P (trial_of P n) ≡ false → cut_after P (trial_of P n) ≡ true
      → search_of P ≡ miss P n → Ended P

pub ended : (P : Problem) → Usable P.how → Ended P
unfolding trial
ended P ok = go (bound P.how) 0 (zero-add (bound P.how)) (reached_start P)
  where
    spent : (n b : ℕ) → n + 0 ≡ b → n < b → ⊥
    spent n b e l = omega arith

    test : (n : ℕ) → Reached P n (trial_of P n) → (Reached P (suc n) (trial_of P (suc n)) → Ended P) → (b c : Bool)
        → passes_at P (trial_of P n) ≡ b → cut_after P (trial_of P n) ≡ c → Ended P
    test n r on true c p q = passed n r p (is-hit P n (trial_of P n) ok r p)
    test n r on false true p q = failed n r p q (is-miss P n (trial_of P n) ok r p q)
    test n r on false false p q = on (reached_next P n (trial_of P n) r p q)

    go : (f n : ℕ) → n + f ≡ bound P.how → Reached P n (trial_of P n) → Ended P
    go zero n e r = absurd (spent n (bound P.how) e (reached_under P n (trial_of P n) ok r))
    go (suc f) n e r =
        let on = go f (suc n) (suc-add n f ∙ sym (add-suc n f) ∙ e) in
        test n r on (passes_at P (trial_of P n)) (cut_after P (trial_of P n)) refl refl
