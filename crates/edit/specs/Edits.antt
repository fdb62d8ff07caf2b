-- One edit of a roll: questions 9 to 13, and 16. "An accepted edit writes the named stick's entry and no other.": the table after it is in
-- `table` Stores.
use Rattle.std.specs.Prelude.{Bool, cond, not, ◌&&◌, List, [], ◌∷◌, ℕ, eqb, leb}
use Rattle.arith.specs.Lists.{each, among}
use Rattle.grid.specs.Layer.{Layer}
use Rattle.grid.specs.Edges.{in_grid}
use Rattle.grid.specs.Questions.{first_no, Answer, Yes, No}
use Rattle.grid.specs.declared.edge.Edge.{Edge}
use Rattle.grid.specs.declared.refusal.Refusal.{Refusal}
use Rattle.contour.specs.Contours.{contour_of}
use Rattle.chord.specs.Crossing.{slides_within}
use Rattle.table.specs.Vertices.{kept_at, pinned_at, offset_at}
use Rattle.table.specs.Stores.{slid, without}
use Rattle.drawn.specs.Neighbours.{gap_after, next_kept, previous_kept}
use Rattle.drawn.specs.Drawn.{vertex, edge_crosses}
use Rattle.edit.specs.declared.named.Named as declared

-- a question whose place is a byte of the roll
abbrev pub ask_at : ℕ → Refusal → Bool → Answer
ask_at place q test = cond test Yes (No q place)

-- a stick as a command names it, by kind, column and row; it may lie outside the grid: the struct of src/named.rt
abbrev pub Named : Type 0
Named = declared.Named

-- the edge that a command names; it means something for kinds 0 and 1 alone, which question 9 asks first
abbrev pub edge_named : Named → Edge
edge_named s = record { vertical = eqb s.kind 1; column = s.column; row = s.row }

-- the vertices removed under the drawn edge that starts at the kept vertex of e would slide at most T to it, from their stored offsets; for
-- an edge that crosses their sticks this is `RemovedWithin` (Meaning.antt)
unfoldable pub edge_within : Layer → List ℕ → ℕ → Edge → Bool
edge_within L t tolerance e =
    each (λ u. slides_within tolerance (vertex L t e) (vertex L t (next_kept L t e)) u (offset_at L t u)) (gap_after L t e)

-- "9. Does the named stick lie in the grid (a kind above 1 does not) and carry a kept vertex?"
abbrev pub carries_kept : Layer → List ℕ → Named → Bool
carries_kept L t s = leb s.kind 1 && in_grid L.size (edge_named s) && kept_at L t (edge_named s)

-- "16, a slide or removal of a pinned vertex, after question 9 and before 10" (Note 5)
abbrev pub may_move : Layer → List ℕ → Named → Bool
may_move L t s = not (pinned_at L t (edge_named s))

-- "10. Is the new offset 1 to 255?"
abbrev pub good_offset : ℕ → Bool
good_offset o = leb 1 o && leb o 255

module _ (L : Layer) (tolerance : ℕ) (t : List ℕ) (place : ℕ) where
  -- "A slide redraws the two edges at that vertex. Each redrawn edge is tested as a chord with T.": those that start at the kept vertex
  -- before it and at the vertex itself, as they are after the slide
  unfoldable pub slide_answer : Named → ℕ → Answer
  slide_answer s o =
      let e : Edge = edge_named s in
      let before : Edge = previous_kept L t e in
      first_no (
      ask_at place Refusal.NoKeptVertex (carries_kept L t s)
      ∷ ask_at place Refusal.VertexPinned (may_move L t s)
      ∷ ask_at place Refusal.BadOffset (good_offset o)
      ∷ ask_at place Refusal.NoCrossing (edge_crosses L (slid L t e o) before && edge_crosses L (slid L t e o) e)
      ∷ ask_at place Refusal.BeyondTolerance (edge_within L (slid L t e o) tolerance before && edge_within L (slid L t e o) tolerance e)
      ∷ []
      )

  -- "Removal joins the two kept neighbours.": the redrawn edge starts at the kept vertex before, and passes the removed one, "the one being
  -- removed included"
  unfoldable pub removal_answer : Named → Answer
  removal_answer s =
      let e : Edge = edge_named s in
      let before : Edge = previous_kept L t e in
      first_no (
      ask_at place Refusal.NoKeptVertex (carries_kept L t s)
      ∷ ask_at place Refusal.VertexPinned (may_move L t s)
      ∷ ask_at place Refusal.NoCrossing (edge_crosses L (without L t e) before)
      ∷ ask_at place Refusal.BeyondTolerance (edge_within L (without L t e) tolerance before)
      ∷ ask_at place Refusal.TooFewKept (leb 3 (among (kept_at L (without L t e)) (contour_of L e)))
      ∷ []
      )

-- P "pins a kept vertex" (Note 5): it redraws nothing, and question 9 is the only one that applies
unfoldable pub pin_answer : Layer → List ℕ → ℕ → Named → Answer
pin_answer L t place s = ask_at place Refusal.NoKeptVertex (carries_kept L t s)
