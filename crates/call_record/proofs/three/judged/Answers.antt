-- `judged` branches as its definition does. Assumes nothing.
use Rattle.judges.specs.Refusals.{judged_of}
use Rattle.call_record.proofs.three.judged.Goals as goal

pub returns-in-None : goal.returns-in-None
unfolding judged_of
returns-in-None c = simp c.in-None.is c.refused.ensures

pub returns-in-Some : goal.returns-in-Some
unfolding judged_of
returns-in-Some c = simp c.in-Some.is c.finished.ensures
