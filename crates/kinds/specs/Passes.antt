-- When the point of a trial passes. Definitions only.
use Rattle.std.specs.Prelude.{ℕ, Bool, List, Float}
use Rattle.cone.specs.verdict.Answers.{is_yes}
use Rattle.kinds.specs.Answers.{answer_in}

-- 02, Order 5: "A trial passes only on yes; demand 3 reads with that test". The cone is given by its parts
unfoldable pub passes_in : ℕ → ℕ → List Float → Bool → List Float → Bool
passes_in kind dim1 exps primal p = is_yes (answer_in kind dim1 exps primal p)
