-- Laws that the entries cite, of points and of kinds, and of arrays written place by place; and the lemmas of agreement.
pub mod Points
pub mod Written
pub mod AskedKind
mod Agree
