-- Note 8: how many runs Simplify tries at most (Ceiling), and layers on which it tries as many (Reached).
pub mod Ceiling
pub mod Reached
