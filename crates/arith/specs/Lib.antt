-- Definitions on numbers and lists that more than one crate cites.
pub mod Booleans
pub mod Lists
pub mod Ranges
pub mod Finite
pub mod Levels
pub mod Integers
pub mod Nearest
