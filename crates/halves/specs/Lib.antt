-- What the crate's contracts cite: the vertices that are drawn to a half, and where the half goes.
pub mod Halves
