pub mod Points
pub mod Feasibility
pub mod Searches
pub mod Calls
