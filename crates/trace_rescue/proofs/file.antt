-- From the answer of a rescue to its text and output (Answers), closed cases of the text (Cases), and that any two outcomes agree (Agree).
pub mod Answers
pub mod Cases
pub mod Agree
