pub mod Barriers
pub mod Correction
pub mod DualGradient
pub mod PrimalGradient
pub mod feasible
pub mod wright
