-- What is said of contours and samples: turns, which contours are around a sample, outlines and bores.
pub mod Turns
