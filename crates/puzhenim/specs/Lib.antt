-- What the exported functions promise (Face), and what is guaranteed of them (Exported).
pub mod Face
pub mod Exported
