-- `publish` stores what is finite, and leaves with 7 otherwise. Assumes nothing.
use mathlib.Core.Path.{◌∙◌, sym, ap}
use mathlib.Core.List.{List}
use lib.Ieee.{Float}
use Rattle.judges.specs.Refusals.{publish_of}
use Rattle.judges.proofs.refusal.publish.Goals as goal

pub returns-then-all_finite : goal.returns-then-all_finite
unfolding publish_of
returns-then-all_finite c =
    let stored = c.before.before in
    let all_finite = stored.before.before in
    simp (sym all_finite.all_finite.ensures ∙ all_finite.if-all_finite.true)
    (ap (λ (l : List Float). record { answer = 0; slice = l }) stored.store.ensures)

pub returns : goal.returns
unfolding publish_of
returns c = simp (sym c.all_finite.ensures ∙ c.if-all_finite.false)
