-- Laws on the definitions of specs/ that the proofs of this crate cite, and what an accepted Trace leaves.
pub mod Entries
pub mod Outcomes
pub mod Kept
