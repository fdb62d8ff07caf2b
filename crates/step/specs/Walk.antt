-- The direction in which a contour crosses a stick, and the stick that comes next.
use Rattle.std.specs.Prelude.{Bool, cond, not, List, [], ◌∷◌, ℕ, zero, suc, ◌-◌}
use Rattle.grid.specs.Layer.{Layer}
use Rattle.grid.specs.Edges.{first_end}
use Rattle.step.specs.Cells.{link, edge_of}
use Rattle.grid.specs.declared.edge.Edge.{Edge}
use Rattle.step.specs.declared.cell.CellSide.{CellSide}
use Rattle.step.specs.declared.cell.Side.TheVariants.{South, East, North, West}

-- "A contour is walked with inside on its left": a horizontal stick whose west end is inside is crossed to the north, a vertical one
-- whose south end is inside to the west. Upward is to the north or to the east.
abbrev pub upward : Layer → Edge → Bool
upward L e = cond e.vertical (not (first_end L e)) (first_end L e)

-- the cell on the upper (north or east) or the lower side of an edge, and which side of it the edge is
abbrev pub beside : Edge → Bool → CellSide
beside e upper =
    cond upper
    (record { column = e.column; row = e.row; side = cond e.vertical West South })
    (cond e.vertical
    (record { column = e.column - 1; row = e.row; side = East })
    (record { column = e.column; row = e.row - 1; side = North }))

-- the cell that is entered at a stick with the side of entry, and the cell that is left there
abbrev pub ahead : Layer → Edge → CellSide
ahead L e = beside e (upward L e)

abbrev pub behind : Layer → Edge → CellSide
behind L e = beside e (not (upward L e))

-- the successor and the predecessor of a stick on its contour. On a layer that passes questions 1 to 4 every stick has a cell on both
-- sides, since one of its ends is inside and so not on the border; elsewhere they mean nothing.
unfoldable pub next : Layer → Edge → Edge
next L e = edge_of (link L (ahead L e))

unfoldable pub prev : Layer → Edge → Edge
prev L e = edge_of (link L (behind L e))

-- the n sticks that follow e
abbrev pub following : Layer → ℕ → Edge → List Edge
following L zero e = []
following L (suc n) e = next L e ∷ following L n (next L e)
