-- Lemmas of the planner's list: the order of the contours, how much there is to write, the contours at their depths' places, and
-- the outcome.
pub mod Order
pub mod Lengths
pub mod Laying
pub mod Sweeps
pub mod Outcomes
pub mod Examples
