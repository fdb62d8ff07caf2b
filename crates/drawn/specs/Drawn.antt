-- Vertices and drawn edges: where a vertex lies, which drawn edges there are, and the points on them.
use Rattle.std.specs.Prelude.{◌≡◌, Bool, true, ◌||◌, ℕ, ◌<◌}
use mathlib.Core.List.{List, [], ◌∷◌, map, flatten}
use Rattle.arith.specs.Lists.{each}
use Rattle.grid.specs.Layer.{Layer}
use Rattle.grid.specs.Edges.{is_stick}
use Rattle.grid.specs.declared.edge.Edge.{Edge}
use Rattle.contour.specs.Walk.{occurrences, cons_if}
use Rattle.contour.specs.Contours.{walk_of, sticks_by_number, contour_of, first_sticks}
use Rattle.chord.specs.Points.{Position, position, Point, On}
use Rattle.chord.specs.Crossing.{crosses}
use Rattle.table.specs.Vertices.{kept_at, removed_at, offset_at}
use Rattle.drawn.specs.Neighbours.{gap_after, next_kept}

-- "A vertex, kept or removed, lies on its stick at the offset its entry gives."
abbrev pub vertex : Layer → List ℕ → Edge → Position
vertex L t e = position e (offset_at L t e)

-- "A vertex, kept or removed, lies on its stick at the offset its entry gives": each stick carries one, strictly between its samples
pub record VertexInside (L : Layer) (t : List ℕ) (e : Edge) : Type 0 where
  pub kept_or_removed : (kept_at L t e || removed_at L t e) ≡ true
  pub after_start : 0 < offset_at L t e
  pub before_end : offset_at L t e < 256

-- "A drawn edge joins two kept vertices with only removed ones between." It is named by the stick of the kept vertex where it starts.
pub record Drawn (L : Layer) (t : List ℕ) (p : Edge) : Type 0 where
  pub stick : is_stick L p ≡ true
  pub kept : kept_at L t p ≡ true

-- u is one of the removed sticks between its ends
abbrev pub BetweenEnds : Layer → List ℕ → Edge → Edge → Type 0
BetweenEnds L t p u = 0 < occurrences (walk_of L) u (gap_after L t p)

-- the point z lies on the drawn edge that starts at p, its ends included
abbrev pub OnDrawn : Layer → List ℕ → Edge → Point → Type 0
OnDrawn L t p z = On z (vertex L t p) (vertex L t (next_kept L t p))

-- A drawn edge by its ends: from which stick to which. The one that starts at the kept vertex of e
pub record Ends : Type 0 where
  pub from : Edge
  pub to : Edge

abbrev pub drawn_from : Layer → List ℕ → Edge → Ends
drawn_from L t e = record { from = e; to = next_kept L t e }

-- the drawn edges of the kept ones among some sticks, in their order, and those of the contour that starts at f, in walk order
abbrev pub drawn_among : Layer → List ℕ → List Edge → List Ends
drawn_among L t [] = []
drawn_among L t (e ∷ l) = cons_if (kept_at L t e) (drawn_from L t e) (drawn_among L t l)

abbrev pub drawn_of : Layer → List ℕ → Edge → List Ends
drawn_of L t f = drawn_among L t (contour_of L f)

-- those of the contours with these first sticks, one contour after the other, and those of all contours, in contour order
abbrev pub drawn_along : Layer → List ℕ → List Edge → List Ends
drawn_along L t order = flatten (map (drawn_of L t) order)

abbrev pub drawn_edges : Layer → List ℕ → List Ends
drawn_edges L t = drawn_along L t (first_sticks L)

-- the same (proofs/DrawnEdges.antt: `same-starts`) "in the order of the number of the stick they start from" (Note 7)
abbrev pub drawn_by_number : Layer → List ℕ → List Ends
drawn_by_number L t = drawn_among L t (sticks_by_number L)

-- the sticks where they start
abbrev pub starts : List Ends → List Edge
starts l = map (λ d. d.from) l

-- edges that lead from a to b, each beginning where the one before ended
abbrev pub Leads : Edge → List Ends → Edge → Type 0
Leads a [] b = a ≡ b
Leads a (d ∷ l) b = (d.from ≡ a) × Leads d.to l b

-- the drawn edge that starts at the kept vertex of e crosses every removed stick between its ends
unfoldable pub edge_crosses : Layer → List ℕ → Edge → Bool
edge_crosses L t e = each (crosses (vertex L t e) (vertex L t (next_kept L t e))) (gap_after L t e)
