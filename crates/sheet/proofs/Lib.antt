-- What the crate's proofs cite: bytes stored part by part, the sheet's length, the call by its answers, and what it leaves.
pub mod Stored
pub mod Contours
pub mod Counted
pub mod Answered
pub mod Kept
pub mod Examples
