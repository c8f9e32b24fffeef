pub mod Rows
pub mod Entries
pub mod CommonStep
pub mod PlanStep
