-- Edits said over points: what questions 11 and 12 ask of a redrawn edge, and when an edit is accepted. The tests and the answer yes of
-- Edits.antt, which compute, are this (proofs/Meaning.antt). A pin is accepted by question 9 alone, which speaks of no points.
use Rattle.std.specs.Prelude.{◌≡◌, true, List, ℕ, ◌≤◌}
use Rattle.arith.specs.Lists.{among}
use Rattle.grid.specs.Layer.{Layer}
use Rattle.grid.specs.declared.edge.Edge.{Edge}
use Rattle.contour.specs.Contours.{contour_of}
use Rattle.chord.specs.Points.{Crosses, MeetsWithin, CrossesWithin}
use Rattle.table.specs.Vertices.{kept_at, offset_at}
use Rattle.table.specs.Stores.{slid, without}
use Rattle.drawn.specs.Neighbours.{next_kept, previous_kept}
use Rattle.drawn.specs.Drawn.{vertex, BetweenEnds}
use Rattle.edit.specs.Edits.{Named, edge_named, carries_kept, may_move, good_offset}

-- the drawn edge that starts at the kept vertex of e, on the table after the edit:
-- "11. Does each redrawn edge cross its removed sticks, the one being removed included?"
abbrev pub CrossesRemoved : Layer → List ℕ → Edge → Type 0
CrossesRemoved L t e = (u : Edge) → BetweenEnds L t e u → Crosses (vertex L t e) (vertex L t (next_kept L t e)) u

-- "12. Is each such vertex within T?": of each point where it meets such a stick
abbrev pub RemovedWithin : Layer → List ℕ → ℕ → Edge → Type 0
RemovedWithin L t tolerance e =
    (u : Edge) → BetweenEnds L t e u → MeetsWithin tolerance (vertex L t e) (vertex L t (next_kept L t e)) u (offset_at L t u)

-- "Each redrawn edge is tested as a chord with T.": both
abbrev pub Redrawn : Layer → List ℕ → ℕ → Edge → Type 0
Redrawn L t tolerance e =
    (u : Edge) → BetweenEnds L t e u → CrossesWithin tolerance (vertex L t e) (vertex L t (next_kept L t e)) u (offset_at L t u)

-- questions 9, 16 and 10 to 12 of a slide are answered yes: "A slide redraws the two edges at that vertex."
pub record SlideAccepted (L : Layer) (t : List ℕ) (tolerance : ℕ) (s : Named) (o : ℕ) : Type 0 where
  pub kept : carries_kept L t s ≡ true
  pub unpinned : may_move L t s ≡ true
  pub offset : good_offset o ≡ true
  pub into : Redrawn L (slid L t (edge_named s) o) tolerance (previous_kept L t (edge_named s))
  pub out : Redrawn L (slid L t (edge_named s) o) tolerance (edge_named s)

-- questions 9, 16 and 11 to 13 of a removal are answered yes: "Removal joins the two kept neighbours." "13. Are three kept vertices left?"
pub record RemovalAccepted (L : Layer) (t : List ℕ) (tolerance : ℕ) (s : Named) : Type 0 where
  pub kept : carries_kept L t s ≡ true
  pub unpinned : may_move L t s ≡ true
  pub over : Redrawn L (without L t (edge_named s)) tolerance (previous_kept L t (edge_named s))
  pub three : 3 ≤ among (kept_at L (without L t (edge_named s))) (contour_of L (edge_named s))
