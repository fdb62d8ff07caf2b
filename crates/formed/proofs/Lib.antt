-- What the crate's proofs cite: the bytes of a command, where commands and contours are expected, and question 8 as the code asks it.
pub mod Bytes
pub mod Commands
pub mod Contours
pub mod Asking
