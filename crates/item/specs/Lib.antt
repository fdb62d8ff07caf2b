-- What the crate's contracts cite: items, and how they are written out.
pub mod Items
pub mod Writing
