-- What the rows of a call ask of its arguments.
pub mod Judging
