-- One edit: its questions (Edits; the table after it is in `table` Stores), what they say over points (Meaning), and what the contracts of its parts cite
-- besides (Chords).
pub mod Edits
pub mod Meaning
pub mod Chords
