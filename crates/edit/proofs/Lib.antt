-- What questions 11 and 12 say over points (Meaning), and what the code rests on: the redrawn edges and their gaps (Within, GapLengths,
-- Redrawn), and the questions put to one edit (Asked).
pub mod Within
pub mod GapLengths
pub mod Redrawn
pub mod Asked
pub mod Meaning
