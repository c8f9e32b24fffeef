-- Lengths of a call that is let through; any two outcomes of a public function agree.
pub mod Lengths
mod Agree
