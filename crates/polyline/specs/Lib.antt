-- What the crate's contracts cite: the items of a contour.
pub mod Items
