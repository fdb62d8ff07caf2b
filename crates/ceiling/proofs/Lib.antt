-- The theorem on how many runs Simplify tries at most (Ceiling), the layers that reach the ceiling (Reached), and the runs that the program's calls
-- try on them (Rows).
pub mod Ceiling
pub mod Reached
pub mod Rows
