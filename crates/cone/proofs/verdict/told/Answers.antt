-- `told` compares as its definition does. Assumes nothing.
use Rattle.cone.specs.verdict.Answers.{told_of}
use Rattle.cone.proofs.verdict.told.Goals as goal

pub returns-then-res-margin : goal.returns-then-res-margin
unfolding told_of
returns-then-res-margin c = simp c.if-res-margin.true

pub returns-then-res-margin-2 : goal.returns-then-res-margin-2
unfolding told_of
returns-then-res-margin-2 c = simp (c.if-res-margin.false, c.if-res-margin-2.true)

pub returns : goal.returns
unfolding told_of
returns c = simp (c.if-res-margin.false, c.if-res-margin-2.false)
