-- What the crate's contracts cite: walks over numbered elements, the contours of a layer, the set of their first sticks, and what a loop over
-- them has still to come to.
pub mod Walk
pub mod Contours
pub mod Sets
pub mod Marking
pub mod Remaining
