-- The contours of a layer: the walk from stick to stick, the list of sticks that it passes until it comes back, and all such lists in order.
use Rattle.std.specs.Prelude.{◌≡◌, Option, Some, Bool, cond, ◌&&◌, ◌||◌, List, ℕ, eqb, ltb, length}
use Rattle.std.specs.Bool.{beq}
use Rattle.arith.specs.Booleans.{as_number}
use Rattle.grid.specs.Layer.{Layer}
use Rattle.grid.specs.Edges.{number, edge_at, edge_count, is_stick}
use Rattle.step.specs.Walk.{next, prev}
use Rattle.grid.specs.declared.edge.Edge.{Edge}
use Rattle.contour.specs.Walk.{Walk, contour, occurrences, OnContour, by_number, first, firsts, contours}

abbrev pub same_edge : Edge → Edge → Bool
same_edge e f = beq e.vertical f.vertical && (eqb e.column f.column && eqb e.row f.row)

-- what walks on a layer: from each stick to the next, with inside on the left
abbrev pub walk_of : Layer → Walk
walk_of L = record {
  Element = Edge;
  same = same_edge;
  number = number L.size;
  at = edge_at L.size;
  many = edge_count L.size;
  next = next L;
  prev = prev L;
  is_one = is_stick L;
}

-- a stick, if there is one, is on the contour of f
abbrev pub AtOn : Layer → Edge → Option Edge → Type 0
AtOn L f at = (e : Edge) → at ≡ Some e → OnContour (walk_of L) f e

-- all sticks, ascending by number
abbrev pub sticks_by_number : Layer → List Edge
sticks_by_number L = by_number (walk_of L)

-- the contour that starts at f: the sticks that the walk from f passes until it is back
abbrev pub contour_of : Layer → Edge → List Edge
contour_of L f = contour (walk_of L) f

-- "It starts at its lowest stick number, and contours are ordered by that number": the sticks whose contour has no stick with a lower
-- number, ascending, and their contours in that order
abbrev pub first_sticks : Layer → List Edge
first_sticks L = firsts (walk_of L)

abbrev pub contours_of : Layer → List (List Edge)
contours_of L = contours (walk_of L)

-- an order of the contours, by their first sticks: a list that has each first stick once, and nothing else
abbrev pub EachFirstOnce : Layer → List Edge → Type 0
EachFirstOnce L order = (e : Edge) → occurrences (walk_of L) e order ≡ as_number (first (walk_of L) e)

-- the third figure of Counts: "and the contours"
abbrev pub contour_count : Layer → ℕ
contour_count L = length (contours_of L)

-- the order of edges by kind, then row, then column, which is the order of their numbers (proofs/Theorems.antt)
abbrev pub earlier : Edge → Edge → Bool
earlier e f =
    cond (beq e.vertical f.vertical)
    (ltb e.row f.row || (eqb e.row f.row && ltb e.column f.column))
    f.vertical
