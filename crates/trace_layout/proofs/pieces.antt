-- What the parser computes is what the definitions say (Shapes).
pub mod Shapes
pub mod Agree
