-- What the contracts of the code cite besides: a chord against the sticks that follow a stick on its contour, and how far positions and
-- edges may lie, so that all products fit.
use Rattle.std.specs.Prelude.{◌≡◌, Bool, true, ℕ, ◌≤◌, ◌<◌}
use Rattle.arith.specs.Lists.{each}
use Rattle.grid.specs.Layer.{Layer}
use Rattle.grid.specs.Edges.{is_stick}
use Rattle.grid.specs.Questions.{Sound}
use Rattle.step.specs.Walk.{following}
use Rattle.grid.specs.declared.edge.Edge.{Edge}
use Rattle.chord.specs.Points.{Position}
use Rattle.chord.specs.Crossing.{crosses}

-- the chord from p to q crosses each of the n sticks that follow e on its contour
unfoldable pub crosses_run : Layer → Position → Position → Edge → ℕ → Bool
crosses_run L p q e n = each (crosses p q) (following L n e)

-- a position on the largest layer, and an edge of it
pub record Near (p : Position) : Type 0 where
  pub x_most : p.x ≤ 262144
  pub y_most : p.y ≤ 262144

pub record NearEdge (e : Edge) : Type 0 where
  pub column_below : e.column < 1024
  pub row_below : e.row < 1024

-- what code that tests the chord from p to q against the sticks after e is given: both positions on the largest layer, and e a stick of a
-- sound layer
pub record ChordAt (L : Layer) (p q : Position) (e : Edge) : Type 0 where
  pub sound : Sound L
  pub p_near : Near p
  pub q_near : Near q
  pub stick : is_stick L e ≡ true
