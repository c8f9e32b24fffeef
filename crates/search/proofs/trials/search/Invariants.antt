-- `search` is the definition, trial by trial. The invariant is `Stands`: the trial α is allowed, all before it failed, and the count is of
-- their single tests. The measure is what is left of 2,048 times `bound`, since every trial makes a test at least. Assumes nothing.
use Rattle.std.proofs.Common.{◌≡◌, ◌-◌, ◌*◌}
use Rattle.search.specs.trials.Trials.{bound, Usable}
use Rattle.search.specs.trials.Asked.{most_tests, searched_with}
use Rattle.search.proofs.trials.Costed.{Stands}
use Rattle.search.proofs.trials.search.Given as goal

abbrev pub invariant-loop-how : goal.invariant-loop-how
invariant-loop-how g l =
    let t = g.T.Trial in
    t.sound l.trial
    × (t.lent l.trial ≡ t.lent l.initial.trial)
    × (t.about l.trial ≡ t.about l.initial.trial)
    × Usable l.how
    × Stands (searched_with (t.about l.initial.trial) l.how) l.count l.alpha

abbrev pub decreases-loop-how : goal.decreases-loop-how
decreases-loop-how g l = most_tests * bound l.how - l.count
