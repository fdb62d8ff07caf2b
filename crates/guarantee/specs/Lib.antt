-- What is guaranteed: the list of calls, and the paper's cases.
pub mod Calls
pub mod Cases
