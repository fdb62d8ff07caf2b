-- Laws on kept neighbours and gaps (Gaps, GapWalk, Runs, Neighbours), which drawn edge owns a stick (Owners), drawn edges cell by cell (CellLinks,
-- Pieces), the side lemma and what follows from it (SideLemma, FourKept), one removed stick more (Removal), the lists of drawn edges
-- (DrawnEdges), and what a store does to a table (Stores).
pub mod Gaps
pub mod GapWalk
pub mod Runs
pub mod Vertices
pub mod Owners
pub mod CellLinks
pub mod Pieces
pub mod SideLemma
pub mod FourKept
pub mod Neighbours
pub mod Removal
pub mod DrawnEdges
pub mod Stores
