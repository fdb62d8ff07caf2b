-- Cells, that is squares of four samples, and the links between their sides. A cell has the column and row of its lower left sample.
-- "Row 0 is lowest, y grows with the row": north is towards higher rows, east towards higher columns.
use Rattle.std.specs.Prelude.{Bool, cond, ◌&&◌, List, [], ◌∷◌, ℕ, zero, suc, ◌+◌, ◌*◌, ◌/◌, ◌%◌, ◌^◌, get_or}
use Rattle.std.specs.Bool.{xor}
use Rattle.arith.specs.Booleans.{as_number}
use Rattle.grid.specs.Layer.{Layer, sample}
use Rattle.grid.specs.declared.edge.Edge.{Edge}
use Rattle.step.specs.declared.cell.CellSide.{CellSide}
use Rattle.step.specs.declared.cell.Side.{Side}
use Rattle.step.specs.declared.cell.Side.TheVariants.{South, East, North, West}

-- the pattern of a cell: which of its corners are inside
pub record Corners : Type 0 where
  pub sw : Bool
  pub se : Bool
  pub nw : Bool
  pub ne : Bool

abbrev pub corners : Layer → ℕ → ℕ → Corners
corners L c r =
    record {
      sw = sample L c r;
      se = sample L (c + 1) r;
      nw = sample L c (r + 1);
      ne = sample L (c + 1) (r + 1);
    }

-- the corners at the two ends of a side, in the order of the edge that it is
abbrev pub start_corner : Corners → Side → Bool
start_corner k South = k.sw
start_corner k East = k.se
start_corner k North = k.nw
start_corner k West = k.sw

abbrev pub end_corner : Corners → Side → Bool
end_corner k South = k.se
end_corner k East = k.ne
end_corner k North = k.ne
end_corner k West = k.nw

-- the side is a stick
abbrev pub cut : Corners → Side → Bool
cut k s = xor (start_corner k s) (end_corner k s)

-- two inside corners on a diagonal, and no other: all four sides are sticks
abbrev pub diagonal : Corners → Bool
diagonal k = cut k South && cut k East && cut k North && cut k West

-- the next stick round the cell after this one; without a diagonal a cell has no stick or exactly two, so it is the other one
abbrev pub other_stick : Corners → Side → Side
other_stick k South = cond (cut k East) East (cond (cut k North) North West)
other_stick k East = cond (cut k North) North (cond (cut k West) West South)
other_stick k North = cond (cut k West) West (cond (cut k South) South East)
other_stick k West = cond (cut k South) South (cond (cut k East) East North)

-- the side that meets this one at its inside end
abbrev pub at_inside_end : Corners → Side → Side
at_inside_end k South = cond k.sw West East
at_inside_end k East = cond k.se South North
at_inside_end k North = cond k.nw West East
at_inside_end k West = cond k.sw South North

-- "Within a square of four samples the sixteen patterns say which sticks are linked. With two inside samples on a diagonal, each
-- inside corner is cut off alone." The side linked to a side; a side that is no stick is linked to none and stands for itself.
abbrev pub partner : Corners → Side → Side
partner k s = cond (cut k s) (cond (diagonal k) (at_inside_end k s) (other_stick k s)) s

abbrev pub link : Layer → CellSide → CellSide
link L p =
    record { column = p.column; row = p.row; side = partner (corners L p.column p.row) p.side }

-- the grid edge that a side of a cell is
abbrev pub edge_on : ℕ → ℕ → Side → Edge
edge_on c r South = record { vertical = Bool.false; column = c; row = r }
edge_on c r East = record { vertical = Bool.true; column = c + 1; row = r }
edge_on c r North = record { vertical = Bool.false; column = c; row = r + 1 }
edge_on c r West = record { vertical = Bool.true; column = c; row = r }

abbrev pub edge_of : CellSide → Edge
edge_of p = edge_on p.column p.row p.side

-- The numbers by which the table of patterns is read: of a pattern, and of a side.
abbrev pub index : Corners → ℕ
index k = as_number k.sw + 2 * as_number k.se + 4 * as_number k.nw + 8 * as_number k.ne

abbrev pub side_index : Side → ℕ
side_index South = 0
side_index East = 1
side_index North = 2
side_index West = 3

abbrev pub side_at : ℕ → Side
side_at zero = South
side_at (suc zero) = East
side_at (suc (suc zero)) = North
side_at (suc (suc (suc n))) = West

-- "The square patterns stand in a constant table": for each pattern the sides linked to its west, north, east and south side, two bits
-- each, south lowest. That it is the rule `partner` is shown by one test (proofs/Links.antt).
abbrev pub links : List ℕ
links =
    0b11_10_01_00 ∷
    0b00_10_01_11 ∷
    0b11_10_00_01 ∷
    0b01_10_11_00 ∷
    0b10_11_01_00 ∷
    0b11_00_01_10 ∷
    0b10_11_00_01 ∷
    0b11_01_10_00 ∷
    0b11_01_10_00 ∷
    0b00_01_10_11 ∷
    0b11_00_01_10 ∷
    0b10_11_01_00 ∷
    0b01_10_11_00 ∷
    0b11_10_00_01 ∷
    0b00_10_01_11 ∷
    0b11_10_01_00 ∷
    []

abbrev pub linked_in : ℕ → Side → Side
linked_in n s = side_at (get_or links n 0 / 2 ^ (2 * side_index s) % 4)

abbrev pub linked_to : Corners → Side → Side
linked_to k s = linked_in (index k) s
