-- Twice the signed area of each contour, and the call that gives them with the running sums.
pub mod Areas
pub mod Call
pub mod Measuring
