-- `common_search` searches over trials that make a test of each cone at most. Assumes nothing.
use Rattle.search.proofs.plan.Costs.{plan_costs}
use Rattle.search.proofs.plan.common_search.Goals as goal

pub search-requires-clause-costs : goal.search-requires-clause-costs
search-requires-clause-costs c = plan_costs _ _ _ _ (c.requires.some-cones, c.requires.few_cones)
