-- The loop's turns (Noting), the counts and the answer (Counting), and that any two outcomes agree (Agree).
pub mod Noting
pub mod Counting
pub mod Agree
