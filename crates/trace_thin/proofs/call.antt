-- What is kept of a good trace (Keeping), from the judging and the choice to the answer (Answers), the theorems (Thins), and that any two
-- outcomes agree (Agree).
pub mod Keeping
pub mod Answers
pub mod Thins
pub mod Agree
