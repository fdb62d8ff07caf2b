-- What the contracts of the code cite besides: simplifying from a table on, counted from 0, a run that waits, and what trying the runs of a contour
-- is given.
use Rattle.std.specs.Prelude.{◌≡◌, List, ℕ, length}
use Rattle.grid.specs.Layer.{Layer}
use Rattle.grid.specs.Edges.{edge_count}
use Rattle.grid.specs.declared.edge.Edge.{Edge}
use Rattle.run.specs.Runs.{HasSticks}
use Rattle.run.specs.Marks.{MarkedAlong}
use Rattle.simplify.specs.Runs.{Progress}
use Rattle.simplify.specs.declared.tries.Run.{Run}
use Rattle.simplify.specs.declared.tries.RunCounts.{RunCounts}

-- nothing is removed and no run tried yet
abbrev pub begun : List ℕ → Progress
begun t = record { table = t; removed = 0; tried = 0 }

-- the result of the code: its two counts, and the table
abbrev pub reached : RunCounts → List ℕ → Progress
reached r t = record { table = t; removed = r.removed; tried = r.tried }

-- a run of so many edges that ends at a stick
abbrev pub run_to : ℕ → Edge → Run
run_to edges end = record { edges = edges; end = end }

-- a contour of n sticks from f on, a table with an entry for each edge of the layer, and marks along the contour, or none
pub record ContourLent (L : Layer) (t : List ℕ) (f : Edge) (n : ℕ) (marks : List ℕ) : Type 0 where
  pub contour : HasSticks L f n
  pub exact : length t ≡ edge_count L.size
  pub marked : MarkedAlong L f marks
