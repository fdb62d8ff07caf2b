-- Laws on the definitions of specs/ that the proofs of this crate and of those above it cite.
pub mod Homogeneous
pub mod Weights
pub mod EdgePoints
pub mod Meetings
pub mod Crossings
pub mod Slides
pub mod Tests
pub mod Order
pub mod Cells
pub mod Regions
pub mod Tolerance
