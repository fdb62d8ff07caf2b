-- Examples: sums worked out by running the definitions. Running: what the loops that sum by number rest on.
pub mod Examples
pub mod Running
