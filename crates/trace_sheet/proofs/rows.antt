-- Sums of rows that have room (Summing), what adding two sheets leaves (Joining), that a sheet's largest stand in its files (Named), files
-- added one by one and in two groups (Sums), and that any two outcomes agree (Agree).
pub mod Summing
pub mod Joining
pub mod Named
pub mod Sums
pub mod Agree
