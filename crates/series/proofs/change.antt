-- What is said of two signed fractions holds of the numbers; from one fraction to a larger; L grows with its fraction and no faster; a
-- relative change; L's size.
pub mod Distances
pub mod SignedArithmetic
pub mod Binades
pub mod Lipschitz
pub mod RelativeChange
pub mod LSizes
