-- Lines one behind the other (Lines), and closed cases of the text (Cases).
pub mod Lines
pub mod Cases
