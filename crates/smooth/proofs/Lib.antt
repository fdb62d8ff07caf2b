-- Laws that the proofs of this crate and of those above it cite: on the neighbours of a stick (Neighbours), on steps, passes and the smoothing of
-- a contour (Steps, Passes), that contours do not touch each other and may be smoothed in any order (Locality, Orders), on the code's loops (Sizes to
-- Limits), that Smooth keeps a layer held (Held) and pins as they are (Pins), never meets an exact half (Halves) and is the paper's where a layer
-- has one contour or none (Single), and the paper's cases, with pins too (Examples).
pub mod Neighbours
pub mod Steps
pub mod Passes
pub mod Locality
pub mod Orders
pub mod Sizes
pub mod Walking
pub mod Rounds
pub mod Limits
pub mod Held
pub mod Pins
pub mod Halves
pub mod Single
pub mod Examples
