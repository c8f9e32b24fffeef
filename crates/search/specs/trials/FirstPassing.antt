-- What a search owes, demand 3: "each search returns the first allowed trial whose computed point passes the cone test, and zero exactly if
-- none passes. It hands back that tested point (the start point for zero) and the true number of tests.
-- That number is at most 69 times (start's binary exponent minus smallest's, plus one), or 1 if the start is below the smallest."
-- Definitions and the statement only; proofs/trials/FirstPassing shows it of `searchOf`, and that it leaves one outcome.
use Rattle.std.specs.Prelude.{ℕ, suc, ◌≤◌, ◌<◌, ◌≡◌, true, false}
use Rattle.double.specs.Operators.{◌≺◌}
use Rattle.double.specs.Numbers.{#0}
use Rattle.search.specs.trials.Trials.{trial, Allowed, bound}
use Rattle.search.specs.trials.Search.{Problem, Outcome, passes_at}

-- the trial k is the first allowed one whose computed point passes
pub record First (P : Problem) (k : ℕ) : Type 0 where
  pub allowed : Allowed P.how k
  pub passes : passes_at P (trial P.how k) ≡ true
  pub none_before : (j : ℕ) → j < k → passes_at P (trial P.how j) ≡ false

-- no allowed trial's computed point passes
abbrev pub NonePasses : Problem → Type 0
NonePasses P = (k : ℕ) → Allowed P.how k → passes_at P (trial P.how k) ≡ false

-- the trial k is the last allowed one: the next is below the smallest step
pub record Last (P : Problem) (k : ℕ) : Type 0 where
  pub allowed : Allowed P.how k
  pub next-cut : (trial P.how (suc k) ≺ P.how.smallest) ≡ true

pub record FirstPassing (P : Problem) (o : Outcome) : Type 0 where
  -- "returns the first allowed trial whose computed point passes the cone test"
  pub returns_first : (k : ℕ) → First P k → o.step ≡ trial P.how k
  -- "and zero exactly if none passes"
  pub zero_if_none : NonePasses P → o.step ≡ #0
  pub none_if_zero : o.step ≡ #0 → NonePasses P
  -- "It hands back that tested point (the start point for zero)"
  pub point-tested : (k : ℕ) → First P k → o.point ≡ P.point_at (trial P.how k)
  pub point_at_zero : NonePasses P → o.point ≡ P.q
  -- "and the true number of tests": the trials 0 to k were tested
  pub tests_to_first : (k : ℕ) → First P k → o.count ≡ suc k
  pub tests_of_all : (k : ℕ) → NonePasses P → Last P k → o.count ≡ suc k
  -- "That number is at most 69 times (start's binary exponent minus smallest's, plus one), or 1 if the start is below the smallest."
  pub count_bounded : o.count ≤ bound P.how
