pub mod Records
pub mod Traces
pub mod Inverses
pub mod pieces
