-- `near_root` meets its contract: the calls are the steps of the definition, each on the guess that the one before it leaves, and the test
-- tells whether it takes the fifth. Assumes nothing.
use mathlib.Core.Path.{◌≡◌, sym, ap, subst, ◌∙◌}
use Prim.Native.Nat.{ℕ, ◌+◌, ◌^◌, ◌≤◌, ◌<◌}
use native.Mathlib.Omega.{arith}
use Rattle.root.specs.declared.table_root.Guess.{Guess}
use Rattle.root.specs.table_root.Steps.{first_of, step_of, corrected_of}
use Rattle.root.specs.table_root.Room.{StepFits}
use Rattle.root.proofs.table_root.Reciprocals.{Reciprocal, reciprocal_near}
use Rattle.root.proofs.table_root.ThreeSteps.{started, fits₁, fits₂, fits₃, root₃-lt, four_steps, whole_root_four, whole_root_five}
use Rattle.root.proofs.table_root.near_root.Goals as goal
use Rattle.root.proofs.table_root.near_root.Goals.{After-reciprocal-v, After-step-four, After-step-three, After-step-two}

-- past the first call: the argument, and the estimate of 1 over its root
module _ (c : After-reciprocal-v) where
  abbrev m : ℕ
  m = c.args.m

  abbrev v : ℕ
  v = c.reciprocal-v.result

  lo : 2 ^ 52 ≤ m
  lo = c.requires.0

  hi : m < 2 ^ 54
  hi = c.requires.1

  near : Reciprocal m v
  near = subst (λ (k : ℕ). Reciprocal m k) (sym c.reciprocal-v.ensures) (reciprocal_near m lo hi)

  two_steps : Guess
  two_steps = step_of v 256 (2 ^ 36) (first_of m v)

  three_steps : Guess
  three_steps = step_of v 128 (2 ^ 45) (step_of v 256 (2 ^ 36) (first_of m v))

-- past the last: where the first was
abbrev start : After-step-four → After-reciprocal-v
start c = c.before.before.before.before

-- the guesses
is-two : (c : After-step-two) → c.step-two.result ≡ two_steps c.before.before
unfolding two_steps
is-two c = c.step-two.ensures ∙ ap (step_of (v c.before.before) 256 (2 ^ 36)) c.first-one.ensures

is-three : (c : After-step-three) → c.step-three.result ≡ three_steps c.before.before.before
unfolding two_steps three_steps
is-three c = c.step-three.ensures ∙ ap (step_of (v c.before.before.before) 128 (2 ^ 45)) (is-two c.before)

is_four : (c : After-step-four) → c.step-four.result ≡ corrected_of (m (start c)) 4
unfolding three_steps
is_four c =
    c.step-four.ensures
    ∙ ap (step_of (v (start c)) 128 (2 ^ 52)) (is-three c.before)
    ∙ ap
    (λ (k : ℕ). step_of k 128 (2 ^ 52) (step_of k 128 (2 ^ 45) (step_of k 256 (2 ^ 36) (first_of (m (start c)) k))))
    (start c).reciprocal-v.ensures
    ∙ sym (four_steps (m (start c)))

room : (c : After-step-four) → c.step-four.result.root < 2 ^ 53
unfolding three_steps
room c =
    subst (λ (g : Guess). g.root < 2 ^ 53)
    (sym (c.step-four.ensures ∙ ap (step_of (v (start c)) 128 (2 ^ 52)) (is-three c.before)))
    (root₃-lt (m (start c)) (v (start c)) (lo (start c)) (hi (start c)) (near (start c)))

pub first-one-requires : goal.first-one-requires
first-one-requires c = started (m c) (v c) (lo c) (hi c) (near c)

pub step-two-requires : goal.step-two-requires
step-two-requires c =
    let s = c.before in
    subst (λ (g : Guess). StepFits (v s) 256 (2 ^ 36) g) (sym c.first-one.ensures) (fits₁ (m s) (v s) (lo s) (hi s) (near s))

pub step-three-requires : goal.step-three-requires
unfolding two_steps
step-three-requires c =
    let s = c.before.before in
    subst (λ (g : Guess). StepFits (v s) 128 (2 ^ 45) g) (sym (is-two c)) (fits₂ (m s) (v s) (lo s) (hi s) (near s))

pub step-four-requires : goal.step-four-requires
unfolding three_steps
step-four-requires c =
    let s = c.before.before.before in
    subst (λ (g : Guess). StepFits (v s) 128 (2 ^ 52) g) (sym (is-three c)) (fits₃ (m s) (v s) (lo s) (hi s) (near s))

-- the answers, by the test
pub returns-then-four : goal.returns-then-four
returns-then-four c =
    let s = c.before.before in
    ap (λ (g : Guess). record { root = g.root; steps = 4 }) (is_four s)
    ∙ sym (whole_root_four (m (start s)) (subst (λ (g : Guess). g.rest ≤ g.root) (is_four s) (omega arith)))

pub returns-else-four : goal.returns-else-four
returns-else-four c =
    let s = c.before.before.before in
    ap (λ (g : Guess). record { root = g.root + 1; steps = 5 }) (is_four s)
    ∙ sym (whole_root_five (m (start s)) (subst (λ (g : Guess). g.root < g.rest) (is_four s) (omega arith)))

pub overflow_add-result : goal.overflow_add-result
overflow_add-result c = omega (arith, room c.before.before.before)
