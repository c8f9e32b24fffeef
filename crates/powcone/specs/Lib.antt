pub mod Feasible
pub mod PrimalGradient
pub mod Barriers
pub mod DualGradient
pub mod correction
