-- The turns of the loop over the records (Tallying), and what a file adds (Parts).
pub mod Tallying
pub mod Parts
