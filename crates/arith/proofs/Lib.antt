-- The laws by subject: turns of a loop, lists filled from the front, branches taken or left, squares, powers, quotients, numbers that
-- shrink, tables.
pub mod Turns
pub mod Filling
pub mod Branches
pub mod Squares
pub mod Powers
pub mod Quotients
pub mod Shrinking
pub mod Tables
