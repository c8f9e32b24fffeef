-- What document 01 says of the exponential (Sum, Bound), what the code computes (Steps), and what it estimates a sum by (Estimates).
pub mod Sum
pub mod Steps
pub mod Estimates
pub mod Bound
pub mod inverse
