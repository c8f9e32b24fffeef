-- Tests of room that say the same (Room).
pub mod Room
