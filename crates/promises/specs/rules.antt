pub mod Entries
pub mod Rules
pub mod Traces
pub mod Calls
