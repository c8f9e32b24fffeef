-- The four kernels, each by its step definition: Door names them all, Powf defines the one that is made of the others.
pub mod Powf
pub mod Door
