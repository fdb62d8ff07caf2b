-- What a drawn edge adds, the sum after each, and how the code goes from stick to stick.
pub mod Adds
pub mod Sums
pub mod Running
