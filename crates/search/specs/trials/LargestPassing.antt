-- What a search owes whose tests are made of single tests. With every test a single one it is demand 3's record and no more
-- (proofs/trials/LargestPassing). The statement only; proofs/trials/LargestPassing shows it of `costedOf`, and that it leaves one outcome.
use Rattle.std.specs.Prelude.{ℕ, ◌*◌, ◌≤◌, ◌≡◌, ◌⊎◌, true, List, T, Float}
use Rattle.double.specs.Operators.{◌≺◌}
use Rattle.search.specs.trials.Trials.{trial, Allowed, bound}
use Rattle.search.specs.trials.Search.{Problem, Outcome, outcome, passes_at}
use Rattle.search.specs.trials.FirstPassing.{FirstPassing}
use Rattle.search.specs.trials.Costed.{Costed, spent}

-- no allowed trial that passes is above the step: it is the step, or below it
abbrev pub NoneAbove : Problem → Float → Type 0
NoneAbove P step =
    (j : ℕ) → Allowed P.how j → passes_at P (trial P.how j) ≡ true → (trial P.how j ≡ step) ⊎ T (trial P.how j ≺ step)

pub record LargestPassing (C : Costed) (o : Outcome) : Type 0 where
  -- how many trials were tested
  pub trials : ℕ
  -- all that demand 3 asks of a search with so many tests. 02, Order 10: "zero exactly if there is none"; "The long lent point holds what
  -- was tested, or the start point for zero"
  pub first_passing : FirstPassing C.problem (outcome o.step trials o.point)
  -- 02, Order 10: "We want the largest trial, in the same sequence as for one cone, at which every cone's point passes"
  pub largest : NoneAbove C.problem o.step
  -- 02, Order 10: "Tests counted are single cone tests": those of the trials that were tested
  pub tests_counted : o.count ≡ spent C trials
  -- 02, Order 10: "Their number is at most the number of cones times the bound for one search": most is what a test of a point takes at
  -- most
  pub tests_bounded : (most : ℕ) → ((p : List Float) → C.cost p ≤ most) → o.count ≤ most * bound C.problem.how
