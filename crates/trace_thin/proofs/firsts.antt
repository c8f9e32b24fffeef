-- Laws of `firsts` (Thinning), of pieces (Pieces) and of records as pieces (Pieced); the loops that look for a piece (Seeking), move
-- (Moving, Sliding), choose (Choosing).
pub mod Thinning
pub mod Pieces
pub mod Pieced
pub mod Seeking
pub mod Moving
pub mod Choosing
pub mod Sliding
