-- `cone_ok_within` asks the test of the kind. Assumes nothing.
use Rattle.std.proofs.Common.{◌∙◌, sym}
use Rattle.judges.specs.cone_judge.Cones.{cone_ok_within}
use Rattle.judges.proofs.cone_judge.cone_ok_within.Goals as goal

pub returns-then-is_wide : goal.returns-then-is_wide
unfolding cone_ok_within
returns-then-is_wide c = simp (sym c.is_wide.ensures ∙ c.if-is_wide.true) c.wide_ok.ensures

pub returns : goal.returns
unfolding cone_ok_within
returns c = simp (sym c.is_wide.ensures ∙ c.if-is_wide.false) c.three_ok.ensures
