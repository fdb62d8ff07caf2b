-- What the crate's proofs cite: the table that a sheet describes, the table filled, question 7 as the code asks it, what reading leaves, and
-- that writing and reading undo each other.
pub mod Described
pub mod Vertices
pub mod Storing
pub mod Asking
pub mod Theorems
pub mod Written
pub mod RoundTrips
pub mod Examples
