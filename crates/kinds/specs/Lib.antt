pub mod Answers
pub mod Passes
pub mod Three
pub mod Wide
pub mod Cones
