-- What the code judges by numbers is what the definitions judge by records (Judged); the arguments of a call are values of their types
-- (Passing).
pub mod Judged
pub mod Passing
pub mod Agree
