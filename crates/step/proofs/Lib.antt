-- Laws on the links of the sixteen patterns and on the step, for the proofs of this crate and of those above it.
pub mod Links
pub mod Turns
pub mod Walks
pub mod Following
