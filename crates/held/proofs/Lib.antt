-- What question 7 means (Meaning) and when it is answered yes (Holding), what a held layer has (HeldFacts), edits of one (Edits), and how the code
-- asks it (Asking).
pub mod HeldFacts
pub mod Holding
pub mod Meaning
pub mod Edits
pub mod Asking
