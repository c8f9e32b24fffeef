-- Laws that the entries cite: equal outcomes, lengths of a call that is let through.
pub mod Outcomes
pub mod Lengths
pub mod Settled
mod Agree
