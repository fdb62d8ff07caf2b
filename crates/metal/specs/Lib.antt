-- What is said of the areas of a held layer.
pub mod Metal
