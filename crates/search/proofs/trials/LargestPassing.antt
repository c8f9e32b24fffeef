-- What a search with single tests owes (specs/trials/LargestPassing) holds of `costedOf`, and of no other outcome; and of `searchOf`, where
-- every test is a single one. Assumes nothing.
use mathlib.Core.Path.{◌≡◌, refl, sym, ap, ◌∙◌, subst}
use mathlib.Core.Logic.{◌⊎◌, inl, inr}
use mathlib.Core.Bool.{true≢false}
use Prim.Native.Nat.{ℕ, ◌<◌}
use native.Mathlib.Nat.{le_trans, mul-le-mul_left}
use native.Mathlib.Decide.{dec_lt}
use native.Mathlib.Omega.{arith}
use lib.Dec.{T}
use Rattle.double.specs.Operators.{◌≺◌}
use Rattle.search.specs.trials.Trials.{Usable}
use Rattle.search.specs.trials.Search.{Problem, Outcome, outcome, search_of}
use Rattle.search.specs.trials.FirstPassing.{First}
use Rattle.search.specs.trials.Costed.{Costed, with_costs, costed_of, single}
use Rattle.search.specs.trials.LargestPassing.{NoneAbove, LargestPassing}
use Rattle.search.proofs.trials.Trials.{above_later}
use Rattle.search.proofs.trials.Walk.{trial_of, Ended, passed, failed, ended}
use Rattle.search.proofs.trials.FirstPassing.{first_of, last_of, none_of, first_passing, found-is}
use Rattle.search.proofs.trials.Costed.{spent-most, costed_one}

module _ (P : Problem) (ok : Usable P.how) where
  -- the first that passes is above every later one
  first_above : (k : ℕ) → First P k → NoneAbove P (trial_of P k)
  first_above k f j a p = go (dec_lt j k) (dec_lt k j)
    where
      neither : (j < k → ⊥) → (k < j → ⊥) → j ≡ k
      neither h g = omega arith

      go : Dec (j < k) → Dec (k < j) → (trial_of P j ≡ trial_of P k) ⊎ T (trial_of P j ≺ trial_of P k)
      go (yes l) d = absurd (true≢false (sym p ∙ f.none_before j l))
      go (no h) (yes l) = inr (above_later P.how ok k j l a)
      go (no h) (no g) = inl (ap (trial_of P) (neither h g))

  none_above : NoneAbove P (search_of P).step
  none_above = go (ended P ok)
    where
      go : Ended P → NoneAbove P (search_of P).step
      go (passed n r p e) = subst (λ (o : Outcome). NoneAbove P o.step) (sym e) (first_above n (first_of P n r p))
      go (failed n r p c e) = λ j a q. absurd (true≢false (sym q ∙ none_of P n r p (last_of P n r c) j a))

module _ (C : Costed) (ok : Usable C.problem.how) where
  pub largest_passing : LargestPassing C (costed_of C)
  unfolding costed_of
  largest_passing =
      let o = search_of C.problem in
      let f = first_passing C.problem ok in
      record {
        trials = o.count;
        first_passing = f;
        largest = none_above C.problem ok;
        tests_counted = refl;
        tests_bounded = λ most h. le_trans (spent-most C most h o.count) (mul-le-mul_left most f.count_bounded);
      }

  -- any outcome that meets the statement is the search's
  pub largest-is : (o : Outcome) → LargestPassing C o → o ≡ costed_of C
  unfolding costed_of
  largest-is o s =
      ap (λ (k : ℕ). outcome o.step k o.point) s.tests_counted
      ∙ ap (with_costs C) (found-is C.problem ok (outcome o.step s.trials o.point) s.first_passing)

  pub two_agree : (o o' : Outcome) → LargestPassing C o → LargestPassing C o' → o ≡ o'
  two_agree o o' s s' = largest-is o s ∙ sym (largest-is o' s')

-- the search that stands is the instance with single tests
pub search-largest : (P : Problem) → Usable P.how → LargestPassing (single P) (search_of P)
search-largest P ok = subst (LargestPassing (single P)) (costed_one (single P) (λ p. refl)) (largest_passing (single P) ok)
