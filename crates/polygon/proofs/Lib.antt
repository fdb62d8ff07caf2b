-- CellSums: what the edges of the polygon in one cell add and take, and what of its sides is enclosed. Cell: the bounds of one cell. Passages: what
-- passes the cells. Patterns: that a contour does, and all together. ByCells: a sum over sticks is one over the cells. Shared: what neighbouring
-- cells share, over all cells: sides cancel, and a sample is a corner of four. Enclosed: the bounds of the polygon.
pub mod CellSums
pub mod Cell
pub mod Passages
pub mod Patterns
pub mod ByCells
pub mod Shared
pub mod Enclosed
