-- What the reports of this crate are equal to.
pub mod Results
