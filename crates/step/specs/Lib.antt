-- What the crate's contracts cite: cells and the links of their sides, and the successor and predecessor of a stick.
pub mod Cells
pub mod Turns
pub mod Walk
