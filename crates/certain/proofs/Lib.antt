-- In order: the error sums over plain numbers; the logarithm of a quotient; no overflow; margin and residues; the coordinates as fractions
-- and in units; what a decision says; the two tests; all together; closed cases.
pub mod OneOperation
pub mod LogSum
pub mod MarginSum
pub mod ResidueSums
pub mod DecisionSum
pub mod Logarithms
pub mod Room
pub mod Margins
pub mod Residues
pub mod ExactCoordinates
pub mod Coordinates
pub mod Decided
pub mod Primal
pub mod Dual
pub mod Meaning
pub mod Cases
