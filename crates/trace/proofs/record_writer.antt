-- The bits of a vector (Bits); the parts that are put down are the record's bytes (Parts).
pub mod Bits
pub mod Parts
