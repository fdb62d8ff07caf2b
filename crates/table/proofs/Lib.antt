-- Laws on the definitions of specs/ that the proofs of this crate and of the crates above it cite.
pub mod Searching
pub mod Pieces
pub mod Runs
pub mod Lengths
pub mod Suits
pub mod Entries
pub mod AllKept
pub mod Stores
pub mod Pins
pub mod Local
pub mod InTurn
pub mod Lent
