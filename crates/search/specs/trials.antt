pub mod Trials
pub mod Search
pub mod TwoTests
pub mod FirstPassing
pub mod Costed
pub mod LargestPassing
pub mod Asked
