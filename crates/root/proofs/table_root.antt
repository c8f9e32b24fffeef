-- By subject: one correction step over any estimate, the estimate of 1 over the root, the first root, a guess and the next, the three steps
-- and the nearest number, the cases of `table_sqrt_of`, that it is the plain root, roots computed.
pub mod Corrections
pub mod Reciprocals
pub mod FirstRoots
pub mod Guesses
pub mod ThreeSteps
pub mod Cases
pub mod SameRoot
pub mod Values
pub mod Agree
