-- Laws that the proofs of this crate and of those above it cite: on walks along a run (Steps), on marks along a contour (Marking), on runs that
-- pass (Passing), on what a run reads and changes (Local), that it removes no pin (Pins), and what `passes` says over points (Meaning).
pub mod Steps
pub mod Marking
pub mod Passing
pub mod Local
pub mod Pins
pub mod Meaning
