pub mod Series
pub mod change
