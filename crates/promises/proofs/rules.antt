-- What rule 2 takes, rule 1 takes: the order of doubles, the tolerances, the answers, those of a plan, the sums at the tolerances; a rule
-- in a trace; the same of the calls, and that these have outcomes.
pub mod Order
pub mod Tolerances
pub mod Answers
mod PlanAnswers
mod AtTolerance
mod Traces
mod Calls
mod Occurring
