-- What the promise of the layer program's work says.
pub mod Slice
