-- `sides_search` searches over trials that make a test of each cone on each side at most. Assumes nothing.
use Rattle.search.proofs.plan.Costs.{sides_costs}
use Rattle.search.proofs.plan.sides_search.Goals as goal

pub search-requires-clause-costs : goal.search-requires-clause-costs
search-requires-clause-costs c = sides_costs _ _ _ _ _ (c.requires.0.some-cones, c.requires.0.few_cones)
