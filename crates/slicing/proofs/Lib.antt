-- Theorems on the layer program's bytes, and what the proofs of the crate share.
pub mod Bounds
pub mod Answers
pub mod Accepting
pub mod Reading
pub mod Example
