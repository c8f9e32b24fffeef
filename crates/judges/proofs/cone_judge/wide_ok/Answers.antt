-- `wide_ok` asks its six tests of the used exponents. Assumes nothing.
use Rattle.judges.specs.cone_judge.Cones.{wide_ok}
use Rattle.judges.proofs.cone_judge.wide_ok.Goals as goal

pub returns : goal.returns
unfolding wide_ok
returns c = cc
