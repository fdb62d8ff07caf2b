-- What the crate's contracts cite: sets of edge numbers.
pub mod Sets
pub mod Bits
