-- Laws on the definitions of specs/ that the proofs of this crate and of those above it cite.
pub mod Samples
pub mod Borders
pub mod Numbers
pub mod Answers
pub mod Asking
pub mod Bits
