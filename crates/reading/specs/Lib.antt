-- What the crate's contracts cite: the reading of a sheet and where its vertices stand; and the theorem that writing and reading undo each
-- other.
pub mod Reading
pub mod Places
pub mod RoundTrips
