-- Parts written one behind the other, and how long lines are (Writing); the lines that loops write (Lines); small cases
-- (Cases).
pub mod Writing
pub mod Lines
pub mod Cases
