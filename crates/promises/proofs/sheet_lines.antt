-- The document's lines, computed (Lines); a row's places as lines (Sums); the larger of two, by the earlier one on a tie (Most).
pub mod Lines
pub mod Sums
pub mod Most
