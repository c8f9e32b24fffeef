pub mod Points
pub mod Problems
pub mod trials
pub mod plan
