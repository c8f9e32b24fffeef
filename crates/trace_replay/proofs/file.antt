-- From the answer of a replay to its text (Answers), and that any two outcomes agree (Agree).
pub mod Answers
pub mod Agree
