-- What a contract allows is what its definition makes.
pub mod Defined
