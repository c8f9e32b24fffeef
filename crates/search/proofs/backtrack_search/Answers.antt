-- `backtrack_search` searches over trials of one test each, so that their number is the tests'. Assumes nothing.
use Rattle.std.proofs.Common.{rules, refl, ◌∙◌}
use Rattle.search.specs.trials.Asked.{searched_with}
use Rattle.search.specs.Problems.{cone_trials}
use Rattle.search.proofs.trials.Costed.{costed_one}
use Rattle.search.proofs.backtrack_search.Goals as goal

pub returns : goal.returns
returns c =
    let a = c.args in
    let trials = cone_trials a.cone.now a.primal a.dq.now a.q.now in
    let found = c.search.ensures.found ∙ costed_one (searched_with trials a.how) (λ p. refl) in
    search rules
