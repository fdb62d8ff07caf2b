-- What the promise of the planner's list says: the items of the contours, the call's outcome, and how items are written out.
pub mod Items
pub mod Plan
pub mod Writing
