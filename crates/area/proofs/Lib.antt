-- Examples: areas worked out by running the definitions. Summing: the sum along one contour. Storing: the areas of all contours, stored one after the
-- other. Totals: that the sums by number come to the areas of all contours together. Answered: the call by its answers.
pub mod Examples
pub mod Summing
pub mod Storing
pub mod Totals
pub mod Answered
