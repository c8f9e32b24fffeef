-- What an accepted call has; the test by kind is `certain`'s; then the entries that answer it, the searches, the common step, one step for
-- both sides; all of it of the exports' contracts; and closed cases.
pub mod Accepted
pub mod Tests
pub mod Feasibility
pub mod Searches
pub mod CommonStep
pub mod PlanStep
pub mod Exports
pub mod Cases
