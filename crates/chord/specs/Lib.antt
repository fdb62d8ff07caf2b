-- Chords: points and segments over whole numbers as the paper states them, and the tests that compute.
pub mod Points
pub mod Crossing
pub mod Runs
