-- What the crate's contracts cite: the commands of a sheet, the sheet that is written, and bytes stored from a place on.
pub mod Commands
pub mod Written
pub mod Stored
