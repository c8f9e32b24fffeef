-- `lent_finite` judges the part that the kind uses. Assumes nothing.
use Rattle.std.proofs.Common.{◌∙◌, sym, ap}
use Rattle.judges.specs.Judges.{three_finite, record_finite}
use Rattle.judges.proofs.lent_finite.Goals as goal

pub returns-then-is_wide : goal.returns-then-is_wide
unfolding record_finite
returns-then-is_wide c = simp (sym c.is_wide.ensures ∙ c.if-is_wide.true) c.wide_finite.ensures

pub returns : goal.returns
unfolding record_finite
returns c =
    simp (sym c.is_wide.ensures ∙ c.if-is_wide.false) (c.three_finite.ensures ∙ ap three_finite c.copied.ensures)
