-- The primal entries use the record's cone alone.
pub mod Primal
mod Agree
