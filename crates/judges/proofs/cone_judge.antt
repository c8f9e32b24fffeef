-- Loops that test every place of a slice; any two outcomes of a public function agree.
pub mod Folds
mod Agree
