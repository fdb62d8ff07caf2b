-- Runs along a contour and when one passes (Runs), the same over points (Meaning), and marks along a contour (Marks).
pub mod Runs
pub mod Meaning
pub mod Marks
