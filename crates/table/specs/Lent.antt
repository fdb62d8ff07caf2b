-- What code that works on a table is given once questions 1 to 5 are answered yes: a layer, a table of its length, and a stick, a row or an
-- edge in it.
use Rattle.std.specs.Prelude.{◌≡◌, Bool, true, List, ℕ, ◌+◌, ◌≤◌, ◌<◌, length}
use Rattle.grid.specs.Layer.{Layer}
use Rattle.grid.specs.Edges.{edge_count, edge_rows, in_grid, is_stick}
use Rattle.grid.specs.Questions.{Sized, Sound}
use Rattle.grid.specs.declared.layer.Size.{Size}
use Rattle.grid.specs.declared.edge.Edge.{Edge}

-- a sound layer and a table with an entry for each of its edges
pub record Lent (L : Layer) (t : List ℕ) : Type 0 where
  pub sound : Sound L
  pub exact : length t ≡ edge_count L.size

-- and a stick of that layer
pub record LentAt (L : Layer) (t : List ℕ) (e : Edge) : Type 0 where
  pub sound : Sound L
  pub exact : length t ≡ edge_count L.size
  pub stick : is_stick L e ≡ true

-- and a row of its edges of a kind
pub record LentRow (L : Layer) (t : List ℕ) (vertical : Bool) (r : ℕ) : Type 0 where
  pub sound : Sound L
  pub exact : length t ≡ edge_count L.size
  pub row : r < edge_rows L.size vertical

-- up to eight entries of a table, from `start` on
pub record LentRun (t : List ℕ) (start n : ℕ) : Type 0 where
  pub within : start + n ≤ length t
  pub small : n ≤ 8

-- the table has an entry for the edge e, whatever the samples are
pub record HasEntry (size : Size) (t : List ℕ) (e : Edge) : Type 0 where
  pub sized : Sized size
  pub exact : length t ≡ edge_count size
  pub in-grid : in_grid size e ≡ true
