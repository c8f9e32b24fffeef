-- Laws that the entries cite: how a call settles by its rows, and by a test after them.
pub mod Settled
pub mod Choices
-- A number of the table stands for one refusal.
pub mod Codes
mod Agree
