pub mod Ratios
pub mod Equations
pub mod Rounds
