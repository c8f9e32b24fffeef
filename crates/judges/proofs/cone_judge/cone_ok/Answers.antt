-- `cone_ok` asks the rule, and the rest with the rule's tolerance. Assumes nothing.
use Rattle.judges.specs.cone_judge.Cones.{cone_ok}
use Rattle.judges.proofs.cone_judge.cone_ok.Goals as goal

pub returns : goal.returns
unfolding cone_ok
returns c = simp (c.cone_ok_within.ensures, c.tolerance_of.ensures, c.rule_ok.ensures)
