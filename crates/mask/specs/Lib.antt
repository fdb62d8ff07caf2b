-- What the crate's contracts cite: the first two figures of Counts.
pub mod Counts
