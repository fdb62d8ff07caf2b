-- The exact division of a coordinate, and items written out one after the other.
pub mod Exact
pub mod Writing
