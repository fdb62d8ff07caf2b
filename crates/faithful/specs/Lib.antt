-- What a layer that passes questions 1 to 7 is shown to be.
pub mod Faithful
