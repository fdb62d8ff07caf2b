-- Where the smoothing rule takes a half.
pub mod Halves
