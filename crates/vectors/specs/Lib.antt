-- What the contracts of this crate cite:
-- the digest of a table.
pub mod Digest
