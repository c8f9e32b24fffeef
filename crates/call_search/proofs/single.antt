-- Laws of the entries: what a call that is let through has, demand 3, and that outcomes agree.
mod LetThrough
pub mod Demand3
pub mod Agree
