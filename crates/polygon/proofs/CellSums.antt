-- One cell of the grid with the edges of the polygon in it. The pattern k says how the polygon passes the cell: its sticks are the sides that k
-- cuts, linked as the cell's rule links them, and walked with the true corners on the left. For a bore the enclosed corners are the others, else
-- the true ones.
use mathlib.Core.Bool.{Bool, cond, not, xor, ◌&&◌}
use Prim.Native.Nat.{ℕ, ◌+◌, ◌*◌, ◌-◌, ◌≤◌}
use Rattle.arith.specs.Booleans.{as_number}
use Rattle.grid.specs.declared.edge.Edge.{Edge}
use Rattle.step.specs.Cells.{Corners, start_corner, cut, partner, edge_on}
use Rattle.step.specs.Turns.{inside_left}
use Rattle.step.specs.declared.cell.Side.{Side}
use Rattle.step.specs.declared.cell.Side.TheVariants.{South, East, North, West}
use Rattle.winding.proofs.Cells.{over_sides}
use Rattle.polygon.specs.Polygon.{x_at, y_at}

-- the walk enters the cell by the side
abbrev pub enters_by : Corners → Side → Bool
unfolding xor
enters_by k s = cut k s && inside_left k s

-- how many of the polygon's edges are in the cell
abbrev pub links_in : Corners → ℕ
unfolding xor
links_in k = over_sides (λ s. as_number (enters_by k s))

-- a corner is enclosed
abbrev pub is_enclosed : Bool → Bool → Bool
is_enclosed bore b = cond bore (not b) b

abbrev pub corners_in : Bool → Corners → ℕ
corners_in bore k =
    as_number (is_enclosed bore k.sw) + as_number (is_enclosed bore k.se) + as_number (is_enclosed bore k.nw) + as_number (is_enclosed bore k.ne)

module _ (G : ℕ) (o : Edge → ℕ) (c r : ℕ) (k : Corners) where
  -- what they add, and what they take
  abbrev pub added_in : ℕ
  unfolding xor
  added_in = over_sides (λ s. as_number (enters_by k s) * (x_at G o (edge_on c r s) * y_at G o (edge_on c r (partner k s))))

  abbrev pub taken_in : ℕ
  unfolding xor
  taken_in = over_sides (λ s. as_number (enters_by k s) * (x_at G o (edge_on c r (partner k s)) * y_at G o (edge_on c r s)))

  -- how much of a side is enclosed: all or nothing, or the part up to the vertex or from it
  abbrev pub part_of : Bool → Side → ℕ
  unfolding xor
  part_of bore s =
      cond (cut k s)
      (cond (is_enclosed bore (start_corner k s)) (o (edge_on c r s)) (G - o (edge_on c r s)))
      (cond (is_enclosed bore (start_corner k s)) G 0)

  -- Twice the enclosed area in the cell is `more_in` less `less_in`: the polygon's edges in it, and the enclosed parts of its sides, taken round it
  -- with the enclosed on the left.
  abbrev pub more_in : Bool → ℕ
  unfolding xor
  more_in bore = cond bore taken_in added_in + G * (c + 1) * part_of bore East + G * (r + 1) * part_of bore North

  abbrev pub less_in : Bool → ℕ
  unfolding xor
  less_in bore = cond bore added_in taken_in + G * c * part_of bore West + G * r * part_of bore South

-- Of one cell: that area is at least half a unit for each link, and differs by less than half a square pitch for each link from a quarter of one for
-- each enclosed corner. Areas are doubled in `above`, and doubled again in the other two.
pub record CellBounds (G n corners more less : ℕ) : Type 0 where
  pub above : less + n ≤ more
  pub least : 2 * less + G * G * corners + 2 * n ≤ 2 * more + 2 * (G * G * n)
  pub most : 2 * more + 2 * n ≤ 2 * less + G * G * corners + 2 * (G * G * n)
