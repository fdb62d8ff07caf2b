-- Laws of the sweep along a row, of depths, and of the set of sticks on bores.
pub mod Sweeping
pub mod Depths
pub mod Marking
