-- `good_with` meets its contract: the trailer first, then the walk. Assumes nothing.
use mathlib.Core.Path.{sym, ◌∙◌}
use Rattle.trace.specs.judge.Opening.{good_with}
use Rattle.trace.proofs.judge.Opening.{few_with}
use Rattle.trace.proofs.judge.good_with.Goals as goal

pub returns-then-not-trailer_ok : goal.returns-then-not-trailer_ok
unfolding good_with
returns-then-not-trailer_ok c = rw (sym c.trailer_ok.ensures ∙ c.if-not-trailer_ok.true)

pub walk-requires : goal.walk-requires
walk-requires c =
    few_with _ _ (sym c.trailer_ok.ensures ∙ c.if-not-trailer_ok.false)

pub returns : goal.returns
unfolding good_with
returns c =
    rw (
      sym c.trailer_ok.ensures ∙ c.if-not-trailer_ok.false,
      c.walk.ensures,
      c.behind.ensures,
      c.front.ensures,
    )
