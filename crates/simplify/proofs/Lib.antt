-- Laws that the proofs of this crate and of those above it cite: on runs that are tried (Trying), on contours in turn (Layers), that contours
-- do not touch each other (Locality), how many runs wait (Waiting), on the runs that are left of a contour (RunsLeft) and wait in an array
-- (Pending), on the call's outcome (Outcomes), what trying a run makes of it (Covers), the theorem that a held layer stays held (Held) and that
-- pins stay (Pins), what `simplify` says over points (Meaning), and the paper's cases, with pins too (Examples).
pub mod Trying
pub mod Layers
pub mod Locality
pub mod Waiting
pub mod RunsLeft
pub mod Pending
pub mod Outcomes
pub mod Covers
pub mod Held
pub mod Pins
pub mod Meaning
pub mod Examples
