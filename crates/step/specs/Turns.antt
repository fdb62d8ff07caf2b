-- A cell that is entered by one of its sides, along a contour or back: what is known of its pattern from that side, and the edge by which it is
-- left. The rule is `partner` (Cells.antt).
use Rattle.std.specs.Prelude.{◌≡◌, Bool, cond, ℕ, ◌+◌, ◌*◌, ◌<◌}
use Rattle.arith.specs.Booleans.{as_number}
use Rattle.grid.specs.Layer.{Layer}
use Rattle.step.specs.Cells.{Corners, corners, partner, edge_on}
use Rattle.grid.specs.Questions.{Whole}
use Rattle.grid.specs.declared.edge.Edge.{Edge}
use Rattle.step.specs.declared.cell.Side.{Side}
use Rattle.step.specs.declared.cell.Side.TheVariants.{South, East, North, West}

-- the corner on the left, seen from the side of entry
abbrev pub inside_left : Corners → Side → Bool
inside_left k South = k.sw
inside_left k East = k.se
inside_left k North = k.ne
inside_left k West = k.nw

-- what the two corners at a side count in the number of the pattern (Cells.antt: `index`)
abbrev pub near : Corners → Side → ℕ
near k South = as_number k.sw + 2 * as_number k.se
near k East = 2 * as_number k.se + 8 * as_number k.ne
near k North = 4 * as_number k.nw + 8 * as_number k.ne
near k West = as_number k.sw + 4 * as_number k.nw

-- the same at a stick, where one of the two is inside: the one on the left, or the one on the right
abbrev pub near_by : Bool → Side → ℕ
near_by inside South = cond inside 1 2
near_by inside East = cond inside 2 8
near_by inside North = cond inside 8 4
near_by inside West = cond inside 4 1

-- what the two corners across the cell from a side count, the lower or western one first
abbrev pub across_count : Side → Bool → Bool → ℕ
across_count South nw ne = 4 * as_number nw + 8 * as_number ne
across_count East sw nw = as_number sw + 4 * as_number nw
across_count North sw se = as_number sw + 2 * as_number se
across_count West se ne = 2 * as_number se + 8 * as_number ne

-- the number of the pattern, from the hand on which inside lies at that side and the two corners across
abbrev pub known : Side → Bool → Bool → Bool → ℕ
known s inside a b = near_by inside s + across_count s a b

-- a cell in the grid that is entered by a stick, with inside on the left or on the right
pub record Entered (L : Layer) (c r : ℕ) (s : Side) (inside : Bool) : Type 0 where
  pub whole : Whole L
  pub column_inner : c + 1 < L.size.width
  pub row_inner : r + 1 < L.size.height
  pub counted : near (corners L c r) s ≡ near_by inside s

-- the edge by which it is left
abbrev pub leaving : Layer → ℕ → ℕ → Side → Edge
leaving L c r s = edge_on c r (partner (corners L c r) s)
