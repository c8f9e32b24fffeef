-- `cone_of` reads every number where the cone has it. Assumes nothing.
use Rattle.cone.specs.words.Words.{cone_of_words}
use Rattle.cone.proofs.words.cone_of.Goals as goal

pub returns : goal.returns
unfolding cone_of_words
returns c =
    rw (c.high_half-rule.ensures, c.low_half-dim2.ensures, c.high_half-dim1.ensures, c.low_half-kind.ensures, c.places-exps.ensures)
