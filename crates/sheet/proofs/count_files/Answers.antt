-- One file more is added to those before it.
use Rattle.sheet.proofs.Reading.{none-added, one_more}
use Rattle.sheet.proofs.count_files.Goals as goal

pub loop-i-init : goal.loop-i-init
loop-i-init c = none-added c.nothing-totals.ensures

pub loop-i-preserved : goal.loop-i-preserved
loop-i-preserved c =
    one_more c.loop-i.i _ _ _ c.front.result.now c.loop-i.invariant c.add-totals.ensures.1 c.add-totals.ensures.0
