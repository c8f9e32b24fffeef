-- In order: distances of exact numbers; how large L is; a weighed logarithm; what a residue beyond its margin says; the margin's part;
-- infinities; the decision; weights, coordinates, exponents; the cone, then its dual; both together.
pub mod Distances
pub mod LogSizes
pub mod Terms
pub mod Ratios
pub mod Margins
pub mod Infinities
pub mod Decided
pub mod Weights
pub mod Coordinates
pub mod ExactNumbers
pub mod Exponents
pub mod Primal
pub mod Quotients
pub mod Dual
pub mod Meaning
