-- Theorems on turns. Rows: from a sample to the next in its row. Contours: which edges are on a contour. Cells: round a cell.
-- Columns: from a sample to the one above, and across any edge. Along: from the inside end of a stick to that of the next.
-- Border: there are none there. Values: 0 and 1 for an outline, 0 and −1 for a bore.
-- Firsts: lists of first sticks. Together: all contours, at a sample. Counts: how many are around a sample, and depth. Nesting: contours within
-- contours.
pub mod Rows
pub mod Contours
pub mod Cells
pub mod Columns
pub mod Along
pub mod Border
pub mod Values
pub mod Firsts
pub mod Together
pub mod Counts
pub mod Nesting
