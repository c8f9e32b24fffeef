-- What a search owes (specs/trials/FirstPassing) holds of `searchOf`, and of no other outcome. Both by cases of how the search ends.
-- Assumes nothing.
use mathlib.Core.Path.{◌≡◌, refl, sym, ap, ◌∙◌, subst}
use mathlib.Core.Bool.{true, false, true≢false}
use mathlib.Core.List.{List}
use Prim.Native.Nat.{ℕ, suc, ◌<◌}
use native.Mathlib.Decide.{dec_lt}
use native.Mathlib.Omega.{arith}
use lib.Dec.{T}
use lib.Ieee.{Float, of_bits}
use lib.Ieee.Positive.{positive}
use Rattle.double.specs.Numbers.{#0}
use Rattle.search.specs.trials.Trials.{trial, Allowed, Usable}
use Rattle.search.specs.trials.Search.{Problem, Outcome, outcome, passes_at, cut_after, hit, miss, search_of}
use Rattle.search.specs.trials.FirstPassing.{First, NonePasses, Last, FirstPassing}
use Rattle.search.proofs.trials.Trials.{trial_positive, under-bound}
use Rattle.search.proofs.trials.Walk.{trial_of, Reached, below_suc, Ended, passed, failed, ended}

no_other : (k n : ℕ) → (k < n → ⊥) → (n < k → ⊥) → k ≡ n
no_other k n h g = omega arith

module _ (P : Problem) where
  -- there is one first passing trial, and one last allowed one

  first_not_later : (k n : ℕ) → First P k → First P n → k < n → ⊥
  first_not_later k n f g l = true≢false (sym f.passes ∙ g.none_before k l)

  one-first : (k n : ℕ) → First P k → First P n → k ≡ n
  one-first k n f g = no_other k n (first_not_later k n f g) (first_not_later n k g f)

  last_not_later : (k n : ℕ) → Last P k → Allowed P.how n → k < n → ⊥
  last_not_later k n f a l = true≢false (sym f.next-cut ∙ a (suc k) (omega arith) l)

  one_last : (k n : ℕ) → Last P k → Last P n → k ≡ n
  one_last k n f g = no_other k n (last_not_later k n f g.allowed) (last_not_later n k g f.allowed)

  -- ---- how the search ends, in the words of the statement

  pub first_of : (n : ℕ) → Reached P n (trial_of P n) → passes_at P (trial_of P n) ≡ true → First P n
  first_of n r p = record { allowed = r.allowed; passes = p; none_before = r.failed }

  pub last_of : (n : ℕ) → Reached P n (trial_of P n) → cut_after P (trial_of P n) ≡ true → Last P n
  unfolding trial
  last_of n r c = record { allowed = r.allowed; next-cut = c }

  pub none_of : (n : ℕ) → Reached P n (trial_of P n) → passes_at P (trial_of P n) ≡ false → Last P n → NonePasses P
  none_of n r p z k a = go (dec_lt n k)
    where
      up_to : (n < k → ⊥) → k < suc n
      up_to h = omega arith

      go : Dec (n < k) → passes_at P (trial_of P k) ≡ false
      go (yes l) = absurd (last_not_later n k z a l)
      go (no h) = below_suc (λ (j : ℕ). passes_at P (trial_of P j) ≡ false) n r.failed p k (up_to h)

  -- no allowed trial is zero
  not-zero : Usable P.how → (n : ℕ) → Allowed P.how n → trial_of P n ≡ #0 → ⊥
  unfolding of_bits
  not-zero ok n a e = subst (λ (z : Float). T (positive z)) e (trial_positive P.how ok n a)

  not-both : (k : ℕ) → First P k → NonePasses P → ⊥
  not-both k f h = true≢false (sym f.passes ∙ h k f.allowed)

  hit_passing : Usable P.how → (n : ℕ) → First P n → FirstPassing P (hit P (trial_of P n) n)
  hit_passing ok n f = record {
    returns_first = λ k g. ap (trial_of P) (one-first n k f g);
    zero_if_none = λ h. absurd (not-both n f h);
    none_if_zero = λ e. absurd (not-zero ok n f.allowed e);
    point-tested = λ k g. ap (λ (j : ℕ). P.point_at (trial_of P j)) (one-first n k f g);
    point_at_zero = λ h. absurd (not-both n f h);
    tests_to_first = λ k g. ap suc (one-first n k f g);
    tests_of_all = λ k h z. absurd (not-both n f h);
    count_bounded = under-bound P.how ok n f.allowed;
  }

  miss_passing : Usable P.how → (n : ℕ) → NonePasses P → Last P n → FirstPassing P (miss P n)
  miss_passing ok n h z = record {
    returns_first = λ k g. absurd (not-both k g h);
    zero_if_none = λ h. refl;
    none_if_zero = λ e. h;
    point-tested = λ k g. absurd (not-both k g h);
    point_at_zero = λ h. refl;
    tests_to_first = λ k g. absurd (not-both k g h);
    tests_of_all = λ k h y. ap suc (one_last n k z y);
    count_bounded = under-bound P.how ok n z.allowed;
  }

  -- ---- the theorem

  pub first_passing : Usable P.how → FirstPassing P (search_of P)
  first_passing ok = go (ended P ok)
    where
      go : Ended P → FirstPassing P (search_of P)
      go (passed n r p e) = subst (λ (o : Outcome). FirstPassing P o) (sym e) (hit_passing ok n (first_of n r p))
      go (failed n r p c e) =
          let z = last_of n r c in subst (λ (o : Outcome). FirstPassing P o) (sym e) (miss_passing ok n (none_of n r p z) z)

  -- any outcome that meets the statement is the search's
  pub found-is : Usable P.how → (o : Outcome) → FirstPassing P o → o ≡ search_of P
  found-is ok o s = go (ended P ok)
    where
      same : (o : Outcome) (α : Float) (n : ℕ) → o.step ≡ α → o.count ≡ n → (p : List Float) → o.point ≡ p → o ≡ outcome α n p
      same o α n a c p q =
          ap (λ (x : Float). outcome x o.count o.point) a ∙ ap (λ (k : ℕ). outcome α k o.point) c ∙ ap (outcome α n) q

      go : Ended P → o ≡ search_of P
      go (passed n r p e) =
          let f = first_of n r p in
          let α = trial_of P n in
          same o α (suc n) (s.returns_first n f) (s.tests_to_first n f) (P.point_at α) (s.point-tested n f) ∙ sym e
      go (failed n r p c e) =
          let z = last_of n r c in
          let h = none_of n r p z in
          same o #0 (suc n) (s.zero_if_none h) (s.tests_of_all n h z) P.q (s.point_at_zero h) ∙ sym e

  pub two_agree : Usable P.how → (o o' : Outcome) → FirstPassing P o → FirstPassing P o' → o ≡ o'
  two_agree ok o o' s s' = found-is ok o s ∙ sym (found-is ok o' s')
