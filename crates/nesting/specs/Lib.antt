-- What the crate's contracts cite: the set of sticks on bores, a sweep along a row, and what is left of the contours with their depths.
pub mod Bores
pub mod Sweeps
pub mod Depths
pub mod Remaining
