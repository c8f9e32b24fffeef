pub mod Replays
pub mod Calls
