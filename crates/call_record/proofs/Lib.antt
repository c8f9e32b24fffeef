-- What every call over a record has that its rows let through.
pub mod Judging
