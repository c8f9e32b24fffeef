-- `finished` branches as its definition does. Assumes nothing.
use mathlib.Core.Path.{◌∙◌, sym}
use Rattle.judges.specs.Refusals.{number_of}
use Rattle.judges.proofs.refusal.finished.Goals as goal

pub returns-then-is_finite : goal.returns-then-is_finite
unfolding number_of
returns-then-is_finite c = simp (sym c.is_finite.ensures ∙ c.if-is_finite.true)

pub returns : goal.returns
unfolding number_of
returns c = simp (sym c.is_finite.ensures ∙ c.if-is_finite.false) c.refused.ensures
