-- Laws of the exported face (Faces), and the guarantee over the exported functions, and that pins hold (Exported).
pub mod Faces
pub mod Exported
