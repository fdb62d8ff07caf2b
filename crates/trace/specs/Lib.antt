-- What the promises of Trace and Counts say.
pub mod Trace
pub mod Counts
