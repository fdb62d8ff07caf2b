-- What the crate's contracts cite: the entries of the hold table, questions 5 and 6, what the table says of a stick, question 15, what a call
-- stores, and what code is given of a table; and, for the guarantee, pins that stay.
pub mod Entries
pub mod Vertices
pub mod Kept
pub mod Stores
pub mod Lent
pub mod Pins
