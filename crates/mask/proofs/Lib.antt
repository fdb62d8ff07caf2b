-- Laws on bits of bytes and on counts of ones, for the proofs of this crate and of those above it.
pub mod Masks
pub mod Ones
