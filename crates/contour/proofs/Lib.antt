-- Laws that the proofs of this crate and of those above it cite: on walks over numbered elements (Orbit to Marking), on the contours of a
-- layer (Sticks, Horizontal, Theorems, Orders, Examples), on the set of first sticks and the scan that fills it (Bytes to FirstSets), and on
pub mod Orbit
pub mod Members
pub mod First
pub mod Numbered
pub mod Contours
pub mod Loop
pub mod Firsts
pub mod Laps
pub mod Outer
pub mod Marking
pub mod Sticks
pub mod Horizontal
pub mod Theorems
pub mod Orders
pub mod Examples
pub mod Bytes
pub mod Scans
pub mod Scanning
pub mod FirstSets
