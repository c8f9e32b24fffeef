pub mod Replays
pub mod Refused
pub mod Traces
pub mod Outright
