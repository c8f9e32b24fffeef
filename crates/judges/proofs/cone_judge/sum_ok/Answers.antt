-- `sum_ok` compares as its definition does. Assumes nothing.
use Rattle.judges.proofs.cone_judge.sum_ok.Goals as goal

pub returns : goal.returns
returns c = simp (← c.sum-d.ensures)
