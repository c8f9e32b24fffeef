-- The theorems of specs/thin_kept: of the definitions (Replays), and of the calls (Calls).
pub mod Replays
pub mod Calls
