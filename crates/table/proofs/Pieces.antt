-- How the edges of a kind are gone through: row by row, and a row in pieces of eight, each with the byte that marks its sticks. Question 6
-- reads the table so, and Trace writes it.
use mathlib.Core.Path.{◌≡◌}
use mathlib.Core.Bool.{Bool}
use mathlib.Core.List.{List}
use Prim.Native.Nat.{ℕ, ◌+◌, ◌*◌, ◌≤◌, ◌<◌, min}
use native.Mathlib.Decide.{dec_lt}
use native.Mathlib.Omega.{arith}
use Rattle.grid.specs.Layer.{Layer, stride}
use Rattle.grid.specs.Edges.{edge_columns, edge_rows, row_start, StickBits}
use Rattle.grid.specs.Questions.{Sound}
use Rattle.grid.specs.declared.layer.Size.{Size}
use Rattle.grid.proofs.Numbers.{column-stride, columns-narrow, row_fits, rows-small, edges-small}
use Rattle.table.specs.Lent.{Lent, LentRow, LentRun}

-- Rows

pub lent_row : {L : Layer} {t : List ℕ} {v : Bool} {rows r : ℕ} → Lent L t → rows ≡ edge_rows L.size v → r < rows → LentRow L t v r
lent_row given high below = record { sound = given.sound; exact = given.exact; row = omega arith }

-- how many rows there are before one, and edges up to its end
module _ {L : Layer} {t : List ℕ} {v : Bool} {r : ℕ} (given : LentRow L t v r) where
  pub row-few : r ≤ 1024
  row-few = (rows-small L.size given.sound.whole.sized v r (omega (arith, given.row))).0

  pub row-places : {columns : ℕ} → columns ≡ edge_columns L.size v → r * columns + columns ≤ 2095104
  row-places wide = rw wide (omega (arith, rows-small L.size given.sound.whole.sized v (r + 1) (omega (arith, given.row))))

-- Pieces

-- the edges of a row before piece `at`
abbrev pub reached : Size → Bool → ℕ → ℕ
reached size v at = min (8 * at) (edge_columns size v)

-- piece `at` of row r as code finds it: `start` is the place of the row's first entry, x marks the sticks, and the piece has n edges
pub record Piece (L : Layer) (v : Bool) (r at start x n : ℕ) : Type 0 where
  pub starts : start ≡ row_start L.size v r
  pub marks : StickBits L v at r x
  pub small : n ≤ 8
  pub some : 1 ≤ n
  pub from : 8 * at ≡ reached L.size v at
  pub to : 8 * at + n ≡ reached L.size v (at + 1)
  pub fits : 8 * at + n ≤ edge_columns L.size v

module _ {L : Layer} {v : Bool} {r at columns : ℕ} (wide : columns ≡ edge_columns L.size v) where
  -- of what `grid::row_start`, `mask::stick_byte` and `mask::run_length` ensure
  pub piece : {start x n : ℕ} → start ≡ row_start L.size v r → StickBits L v at r x
      → (n ≤ 8) × (8 * at + n ≤ columns) × (1 ≤ n) × (n < 8 → 8 * at + n ≡ columns) → Piece L v r at start x n
  piece {n = n} starts marks (small, fits, some, full) = record {
    starts = starts;
    marks = marks;
    small = small;
    some = some;
    from = omega arith;
    to = elim (dec_lt n 8) [ yes less ↦ omega (arith, full less) | no more ↦ omega arith ];
    fits = omega arith;
  }

  -- what `mask::stick_byte` asks
  pub piece-asked : {t : List ℕ} → LentRow L t v r → 8 * at < columns → Sound L × ((at < stride L.size) × (r < edge_rows L.size v))
  piece-asked given below =
      (given.sound, (column-stride L.size given.sound.whole.sized v at (omega arith), given.row))

-- its entries
module _ {L : Layer} {t : List ℕ} {v : Bool} {r at start x n : ℕ} (given : LentRow L t v r) (p : Piece L v r at start x n) where
  pub lent-run : LentRun t (start + 8 * at) n
  lent-run = record {
    within = omega (arith, p.starts, p.fits, row_fits L.size given.sound.whole.sized v r given.row, given.exact);
    small = p.small;
  }

  pub run-low : start + 8 * at ≤ 2095104
  run-low = omega (arith, lent-run.within, given.exact, edges-small L.size given.sound.whole.sized)

  pub pieces-few : at + 1 ≤ 128
  pieces-few = omega (arith, p.some, p.fits, columns-narrow L.size given.sound.whole.sized v)
