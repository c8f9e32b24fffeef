-- The laws by subject: the exponent of a double, the trials of a search, that they fall and how many there are, the walk along them, what a
-- search owes; tests that agree, tests together; a search whose tests are made of single tests, and what that owes.
pub mod Exponents
pub mod Trials
pub mod Walk
pub mod FirstPassing
pub mod SameTests
pub mod TwoTests
pub mod Costed
pub mod LargestPassing
pub mod OneMore
