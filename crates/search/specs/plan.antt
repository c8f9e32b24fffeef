pub mod Plans
pub mod EachCone
pub mod Sides
pub mod EachSide
