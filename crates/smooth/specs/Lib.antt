-- What the crate's contracts cite: passes, smoothing with a limit, a step of the code, and the call; and the paper's Smooth, for the theorems on
-- where it gives the same.
pub mod Smooth
pub mod Visit
pub mod Call
pub mod Former
