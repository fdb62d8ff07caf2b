-- Laws on the definitions of specs/ that the proofs of this crate cite.
pub mod Views
