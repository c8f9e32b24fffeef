-- `place` meets its contract: its one test is that of the definition. Assumes nothing.
use Rattle.std.proofs.Common.{ℕ, ◌+◌, ◌/◌, ◌<◌, ◌≤◌, subst, le-leb}
use borrow.Author.Tests.{lt-leb}
use Rattle.exponential.specs.Steps.{third_in53, border, place_of}
use Rattle.exponential.proofs.place.place.Goals as goal

pub returns-then-border-y : goal.returns-then-border-y
unfolding place_of
returns-then-border-y c =
    let y = c.args.y in
    let b : border (y / (third_in53 + 1) + 1) ≤ y = subst (λ (x : ℕ). x ≤ y) c.border.ensures c.if-border-y.true in
    simp (le-leb _ _ b)

pub returns : goal.returns
unfolding place_of
returns c =
    let y = c.args.y in
    let b : y < border (y / (third_in53 + 1) + 1) = subst (λ (x : ℕ). y < x) c.border.ensures c.if-border-y.false in
    simp (lt-leb _ _ b)
