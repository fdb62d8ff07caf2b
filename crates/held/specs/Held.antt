-- "A layer is held if each contour has three kept vertices or more and each drawn edge crosses every removed stick between its ends."
use Rattle.std.specs.Prelude.{Bool, true, cond, ◌&&◌, List, [], ◌∷◌, ℕ, ◌≤◌, leb, ◌≡◌}
use Rattle.arith.specs.Lists.{each, among}
use Rattle.grid.specs.Layer.{Layer}
use Rattle.grid.specs.Edges.{number}
use Rattle.grid.specs.declared.edge.Edge.{Edge}
use Rattle.grid.specs.declared.refusal.Refusal.TheVariants.{NotHeld}
use Rattle.grid.specs.Questions.{Answer}
use Rattle.grid.specs.Questions.{Yes, No}
use Rattle.contour.specs.Contours.{contour_of, first_sticks, walk_of}
use Rattle.contour.specs.Walk.{first}
use Rattle.chord.specs.Points.{Crosses}
use Rattle.table.specs.Vertices.{kept_at}
use Rattle.drawn.specs.Neighbours.{next_kept}
use Rattle.drawn.specs.Drawn.{vertex, Drawn, BetweenEnds, drawn_of, starts, edge_crosses}

-- the contour that starts at f is held
unfoldable pub held_contour : Layer → List ℕ → Edge → Bool
held_contour L t f =
    leb 3 (among (kept_at L t) (contour_of L f))
    && each (edge_crosses L t) (starts (drawn_of L t f))

-- "7. Is the layer held? (first stick of the first contour that is not)"
abbrev pub first_unheld : Layer → List ℕ → List Edge → Answer
first_unheld L t [] = Yes
first_unheld L t (f ∷ later) = cond (held_contour L t f) (first_unheld L t later) (No NotHeld (number L.size f))

unfoldable pub held_answer : Layer → List ℕ → Answer
held_answer L t = first_unheld L t (first_sticks L)

-- "A layer is held if each contour has three kept vertices or more and each drawn edge crosses every removed stick between its ends": said
-- over points. Question 7, which computes, asks exactly this (proofs/Meaning.antt).
pub record HeldLayer (L : Layer) (t : List ℕ) : Type 0 where
  pub three : (f : Edge) → first (walk_of L) f ≡ true → 3 ≤ among (kept_at L t) (contour_of L f)
  pub crossed : (p u : Edge) → Drawn L t p → BetweenEnds L t p u → Crosses (vertex L t p) (vertex L t (next_kept L t p)) u
