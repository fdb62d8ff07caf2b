-- Laws of words and of sets that the proofs of this crate and of those above it cite.
pub mod Words
pub mod Sets
