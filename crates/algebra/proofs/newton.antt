pub mod Ratios
pub mod Heads
pub mod RoundsLeft
pub mod Counts
pub mod Agree
