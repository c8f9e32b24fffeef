-- `numel` branches as its definition does. Assumes nothing.
use Rattle.std.proofs.Common.{◌∙◌, sym}
use Rattle.cone.specs.Codes.{numel_of}
use Rattle.judges.proofs.numel.Goals as goal

pub returns-then-is_wide : goal.returns-then-is_wide
unfolding numel_of
returns-then-is_wide c = simp (sym c.is_wide.ensures ∙ c.if-is_wide.true)

pub returns : goal.returns
unfolding numel_of
returns c = simp (sym c.is_wide.ensures ∙ c.if-is_wide.false)
