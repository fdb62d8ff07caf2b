-- Twice the signed area of a contour, from its kept vertices, in 1/65,536 of a square pitch.
use Rattle.std.specs.Prelude.{List, [], ◌∷◌, map, ℕ, ℤ, pos, ◌+ℤ◌}
use Rattle.grid.specs.Layer.{Layer}
use Rattle.grid.specs.declared.edge.Edge.{Edge}
use Rattle.contour.specs.Contours.{first_sticks}
use Rattle.drawn.specs.Drawn.{drawn_of}
use Rattle.shoelace.specs.Adds.{edge_adds}

-- the sum of some numbers
abbrev pub sum_of : List ℤ → ℤ
sum_of [] = pos 0
sum_of (z ∷ l) = z +ℤ sum_of l

-- "For each contour give twice its signed area, as a whole number of 1/65,536 of a square pitch, from the kept vertices": the sum over its drawn
-- edges, which join its kept vertices, the last to the first too
unfoldable pub twice_area : Layer → List ℕ → Edge → ℤ
twice_area L t f = sum_of (map (edge_adds L t) (drawn_of L t f))

-- one number a contour, in contour order
abbrev pub areas_of : Layer → List ℕ → List ℤ
areas_of L t = map (twice_area L t) (first_sticks L)
