-- Of what a completed update depends, and what a refused one leaves.
mod LetThrough
pub mod Updates
mod Agree
