-- How long a line is at most (Lengths), closed cases (Cases), and that any two outcomes agree (Agree).
pub mod Lengths
pub mod Cases
pub mod Agree
