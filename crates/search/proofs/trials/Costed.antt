-- A search with single tests followed along its trials. `Stands` is the invariant of a loop that counts them, and what is left of most ·
-- bound its measure, as every trial takes one at least. Assumes nothing.
use mathlib.Core.Path.{◌≡◌, refl, sym, ap, ◌∙◌}
use mathlib.Core.Bool.{true, false}
use mathlib.Core.List.{List}
use Prim.Native.Nat.{ℕ, zero, suc, ◌+◌, ◌*◌, ◌≤◌}
use native.Mathlib.Nat.{le_trans, le_of_eq, mul-suc, mul-le-mul_left}
use native.Mathlib.Omega.{arith}
use lib.Ieee.{Float}
use Rattle.double.specs.Operators.{◌⊗◌}
use Rattle.double.specs.Numbers.{#0}
use Rattle.search.specs.trials.Trials.{trial, bound, Usable}
use Rattle.search.specs.trials.Search.{Problem, outcome, passes_at, cut_after, search_of}
use Rattle.search.specs.trials.Costed.{Costed, cost_at, spent, with_costs, costed_of}
use Rattle.search.proofs.trials.Walk.{Reached, reached_start, reached_next, reached_under, is-hit, is-miss}

-- where the search stands before the test of its trial α, after n single tests
pub record Stands (C : Costed) (n : ℕ) (α : Float) : Type 0 where
  pub trials : ℕ
  pub reached : Reached C.problem trials α
  pub counted : n ≡ spent C trials

pub stands_start : (C : Costed) → Stands C 0 C.problem.how.start
unfolding spent
stands_start C = record { trials = 0; reached = reached_start C.problem; counted = refl }

module _ (C : Costed) (n : ℕ) (α : Float) (s : Stands C n α) where
  abbrev P : Problem
  P = C.problem

  -- the trial α is tested
  one_more : n + cost_at C α ≡ spent C (suc s.trials)
  unfolding spent
  one_more = ap (λ (k : ℕ). k + cost_at C α) s.counted ∙ ap (λ (z : Float). spent C s.trials + cost_at C z) s.reached.is

  pub stands_next : passes_at P α ≡ false → cut_after P α ≡ false → Stands C (n + cost_at C α) (α ⊗ P.how.step)
  stands_next f c =
      record { trials = suc s.trials; reached = reached_next P s.trials α s.reached f c; counted = one_more }

  pub costed_hit : Usable P.how → passes_at P α ≡ true → costed_of C ≡ outcome α (n + cost_at C α) (P.point_at α)
  unfolding costed_of
  costed_hit ok p =
      ap (with_costs C) (is-hit P s.trials α ok s.reached p) ∙ ap (λ (k : ℕ). outcome α k (P.point_at α)) (sym one_more)

  pub costed_miss : Usable P.how → passes_at P α ≡ false → cut_after P α ≡ true → costed_of C ≡ outcome #0 (n + cost_at C α) P.q
  unfolding costed_of
  costed_miss ok p c =
      ap (with_costs C) (is-miss P s.trials α ok s.reached p c) ∙ ap (λ (k : ℕ). outcome #0 k P.q) (sym one_more)

-- ---- how many single tests there can be, where the test of a point takes at most `most`

module _ (C : Costed) (most : ℕ) (h : (p : List Float) → C.cost p ≤ most) where
  pub spent-most : (n : ℕ) → spent C n ≤ most * n
  unfolding spent
  spent-most zero = omega arith
  spent-most (suc n) =
      le_trans (add (spent C n) (cost_at C (trial C.problem.how n)) (most * n) most (spent-most n) (h _))
      (le_of_eq (sym (mul-suc most n)))
    where
      add : (a b c d : ℕ) → a ≤ c → b ≤ d → a + b ≤ c + d
      add a b c d p q = omega arith

  pub under-most : (n : ℕ) (α : Float) → Usable C.problem.how → Stands C n α → n + cost_at C α ≤ most * bound C.problem.how
  under-most n α ok s =
      le_trans (le_of_eq (one_more C n α s))
      (le_trans (spent-most (suc s.trials)) (mul-le-mul_left most (reached_under C.problem s.trials α ok s.reached)))

-- ---- a test that is a single one: the count is that of the trials

module _ (C : Costed) (h : (p : List Float) → C.cost p ≡ 1) where
  spent-one : (n : ℕ) → spent C n ≡ n
  unfolding spent
  spent-one zero = refl
  spent-one (suc n) = one (spent C n) (cost_at C (trial C.problem.how n)) n (spent-one n) (h _)
    where
      one : (a b n : ℕ) → a ≡ n → b ≡ 1 → a + b ≡ suc n
      one a b n p q = omega arith

  pub costed_one : costed_of C ≡ search_of C.problem
  unfolding costed_of
  costed_one = let o = search_of C.problem in ap (λ (k : ℕ). outcome o.step k o.point) (spent-one o.count)
