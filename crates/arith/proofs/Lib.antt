-- Laws on numbers and lists that more than one crate cites.
pub mod Booleans
pub mod Lists
pub mod Ranges
pub mod Counting
pub mod Finite
pub mod Sums
pub mod Stores
pub mod Levels
pub mod Placing
pub mod Integers
pub mod Bounds
pub mod Nearest
pub mod Parity
