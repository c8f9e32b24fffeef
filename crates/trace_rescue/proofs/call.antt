-- What is written of an input (Saving), from the walk to the answer (Answers), the theorems (Rescues), the same of bytes that were put
-- and never sealed (Unsealed), and that any two outcomes agree (Agree).
pub mod Saving
pub mod Answers
pub mod Rescues
pub mod Unsealed
pub mod Agree
