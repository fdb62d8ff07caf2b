-- What the promise of Simplify says (Runs, Call), the same over points (Meaning), how many runs wait meanwhile (Waiting), and what the contracts
-- of its parts cite besides (Parts).
pub mod Runs
pub mod Parts
pub mod Waiting
pub mod Meaning
pub mod Call
