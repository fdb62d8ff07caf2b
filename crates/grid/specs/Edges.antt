-- Grid edges, their numbers, and which of them are sticks. `vertical` of an edge says its kind: false is kind 0, true is kind 1.
use Rattle.std.specs.Prelude.{◌≡◌, Bool, true, false, cond, ◌&&◌, ℕ, ◌+◌, ◌-◌, ◌*◌, ◌/◌, ◌%◌, ◌<◌, ltb}
use Rattle.std.specs.Bool.{xor}
use Rattle.grid.specs.Layer.{Layer, sample, bit}
use Rattle.grid.specs.declared.layer.Size.{Size}
use Rattle.grid.specs.declared.edge.Edge.{Edge}

-- "A horizontal grid edge (kind 0) at (c,r) runs from (c,r) to (c+1,r) .. A vertical one (kind 1) at (c,r) runs to (c,r+1)":
-- how many edges of a kind stand in a row, and in how many rows
abbrev pub edge_columns : Size → Bool → ℕ
edge_columns size vertical = cond vertical size.width (size.width - 1)

abbrev pub edge_rows : Size → Bool → ℕ
edge_rows size vertical = cond vertical (size.height - 1) size.height

abbrev pub in_grid : Size → Edge → Bool
in_grid size e = ltb e.column (edge_columns size e.vertical) && ltb e.row (edge_rows size e.vertical)

-- the lowest number of a kind
abbrev pub kind_start : Size → Bool → ℕ
kind_start size vertical = cond vertical (size.height * (size.width - 1)) 0

-- the lowest number of a row of a kind
abbrev pub row_start : Size → Bool → ℕ → ℕ
row_start size vertical r = kind_start size vertical + r * edge_columns size vertical

-- "number r×(W-1)+c" for a horizontal edge, "number H×(W-1)+r×W+c" for a vertical one
unfoldable pub number : Size → Edge → ℕ
number size e = kind_start size e.vertical + (e.row * edge_columns size e.vertical + e.column)

-- "(W-1)×H + W×(H-1)": how many edges there are
unfoldable pub edge_count : Size → ℕ
edge_count size = (size.width - 1) * size.height + size.width * (size.height - 1)

-- edge k of a kind, counted row by row
abbrev pub edge_in : Size → Bool → ℕ → Edge
edge_in size vertical k =
    record { vertical = vertical; column = k % edge_columns size vertical; row = k / edge_columns size vertical }

-- the edge of a number: the inverse of `number` on the edges in the grid (proofs/Numbers.antt)
unfoldable pub edge_at : Size → ℕ → Edge
edge_at size n = cond (ltb n (kind_start size true)) (edge_in size false n) (edge_in size true (n - kind_start size true))

-- the samples at the two ends of an edge
abbrev pub first_end : Layer → Edge → Bool
first_end L e = sample L e.column e.row

abbrev pub second_end : Layer → Edge → Bool
second_end L e = cond e.vertical (sample L e.column (e.row + 1)) (sample L (e.column + 1) e.row)

-- "An edge whose samples differ is a stick"
unfoldable pub is_stick : Layer → Edge → Bool
is_stick L e = in_grid L.size e && xor (first_end L e) (second_end L e)

-- the sticks of a kind in a row, of a kind row by row, and of the layer by number
abbrev pub stick_in : Layer → Bool → ℕ → ℕ → Bool
stick_in L vertical r c = is_stick L (record { vertical = vertical; column = c; row = r })

abbrev pub stick_of : Layer → Bool → ℕ → Bool
stick_of L vertical k = is_stick L (edge_in L.size vertical k)

abbrev pub stick_at : Layer → ℕ → Bool
stick_at L k = is_stick L (edge_at L.size k)

-- x has a one for each stick among the eight edges of a row from column 8 × at on
pub record StickBits (L : Layer) (vertical : Bool) (at r x : ℕ) : Type 0 where
  pub ones : (b : ℕ) → b < 8 → bit x b ≡ stick_in L vertical r (8 * at + b)
