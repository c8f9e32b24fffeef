-- The rounds of 003 newton_raphson_onesided, over any function f0 with derivative f1. Definitions, and the statement of what the round
-- count means.
use Rattle.std.specs.Prelude.{◌≡◌, ℕ, zero, suc, ◌+◌, ◌<◌, ◌≤◌, Bool, true, false, cond, ◌||◌, ◌⊎◌, Float}
use Rattle.std.specs.Float.Ieee.{neg}
use Rattle.arith.specs.Turns.{iter}
use Rattle.double.specs.Operators.{◌⊕◌, ◌⊘◌, ◌≺◌}
use Rattle.double.specs.Numbers.{#ε, #√ε}
use Rattle.double.specs.Sizes.{abs_of}
use Rattle.algebra.specs.declared.newton.Solved.{Solved}

-- 003 newton_raphson_onesided: the three conditions that stop a round at x, with the step dx and the derivative dfdx
unfoldable pub stops_of : Float → Float → Float → Bool
stops_of x dx dfdx = (dx ≺ #ε) || (abs_of (dx ⊘ x) ≺ #√ε) || (abs_of dfdx ≺ #ε)

module _ (f0 f1 : Float → Float) where
  -- the step of a round at x
  abbrev pub dx_of : Float → Float
  dx_of x = neg (f0 x) ⊘ f1 x

  -- whether a round at x stops there
  abbrev pub stops_at : Float → Bool
  stops_at x = stops_of x (dx_of x) (f1 x)

  -- n rounds are done and the point is x; at most `left` more
  unfoldable pub rounds : ℕ → ℕ → Float → Solved
  rounds zero n x = record { x = x; rounds = n }
  rounds (suc left) n x =
      let next = x ⊕ dx_of x in
      let stopped : Solved = record { x = x; rounds = n + 1 } in
      let more = rounds left (n + 1) next in
      cond (stops_at x) stopped more

  -- 01: "Newton: at most 100 rounds; a round that meets a stop condition leaves x as it stood"
  unfoldable pub newton_of : Float → Solved
  newton_of x0 = rounds 100 0 x0

  -- the point after k rounds that did not stop
  abbrev pub after : Float → ℕ → Float
  after x0 k = iter (λ _ x. x ⊕ dx_of x) x0 k

  -- 01: "the round count (1 to 100) is handed back". So many rounds went on, each with a step; then one stopped and left x as it stood, or
  -- there were a hundred
  pub record Counted (x0 : Float) (r : Solved) : Type 0 where
    pub steps : ℕ
    pub went_on : (k : ℕ) → k < steps → stops_at (after x0 k) ≡ false
    pub point : r.x ≡ after x0 steps
    pub ended : ((steps < 100) × (stops_at (after x0 steps) ≡ true) × (r.rounds ≡ steps + 1)) ⊎ ((steps ≡ 100) × (r.rounds ≡ 100))
    pub least : 1 ≤ r.rounds
    pub most : r.rounds ≤ 100
