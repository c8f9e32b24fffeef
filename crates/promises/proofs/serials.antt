-- Serials count completed updates, and tell rounds apart; the same of the calls.
pub mod Serials
pub mod Calls
