-- Lemmas of the items of a contour: walked once, and how much there is to write.
pub mod Walking
pub mod Lengths
