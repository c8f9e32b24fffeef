pub mod Feasible
pub mod PrimalGradient
pub mod Barriers
pub mod Rank3
pub mod DualGradient
pub mod loops
