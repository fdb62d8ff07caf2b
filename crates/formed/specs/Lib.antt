-- What the crate's contracts cite: the commands that a sheet is expected to have, question 8, and how far the asking code came.
pub mod Expected
pub mod Asked
