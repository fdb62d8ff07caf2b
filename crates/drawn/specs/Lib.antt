-- What the crate's contracts cite: the kept neighbours of a stick, the two ways along a contour, vertices and drawn edges.
pub mod Neighbours
pub mod Ways
pub mod Drawn
