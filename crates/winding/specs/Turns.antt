-- How often a contour turns around a sample, by its sticks alone: no vertex, so no table, has a say in it. A contour is named by its first
-- stick f, a sample by its column c and row r. The definitions mean something on a layer that passes questions 1 to 4, for first sticks f
-- and g and samples of the grid.
use Rattle.std.specs.Prelude.{Bool, cond, true, false, not, ◌&&◌, List, [], ◌∷◌, ℕ, zero, suc, ◌+◌, ◌-◌, ltb, ℤ, pos, negsuc, nat_abs, ◌+ℤ◌}
use Rattle.arith.specs.Lists.{among}
use Rattle.grid.specs.Layer.{Layer}
use Rattle.grid.specs.Edges.{first_end, is_stick, edge_at}
use Rattle.grid.specs.declared.edge.Edge.{Edge}
use Rattle.contour.specs.Walk.{occurrences, low}
use Rattle.contour.specs.Contours.{walk_of, same_edge, contour_of, first_sticks}

-- e is on the contour that starts at f
unfoldable pub is_on : Layer → Edge → Edge → Bool
is_on L f e = ltb 0 (occurrences (walk_of L) e (contour_of L f))

-- "A contour is walked with inside on its left": a stick whose west end is inside is crossed to the north, one whose south end is inside to
-- the west. That counts 1, to the south and to the east −1; where an edge is not on the contour, 0.
abbrev pub dir : Layer → Edge → ℤ
dir L e = cond (first_end L e) (pos 1) (negsuc 0)

abbrev pub dir_on : Layer → Edge → Edge → ℤ
dir_on L f e = cond (is_on L f e) (dir L e) (pos 0)

-- the edges from sample (c, r) to the east and to the north
abbrev pub east : ℕ → ℕ → Edge
east c r = record { vertical = false; column = c; row = r }

abbrev pub north : ℕ → ℕ → Edge
north c r = record { vertical = true; column = c; row = r }

-- the sum over the n horizontal edges of row r from column c on; and over all from there to the row's end, the ray to the right from the
-- sample: how often the contour turns around it, counter-clockwise
unfoldable pub turns_among : Layer → Edge → ℕ → ℕ → ℕ → ℤ
turns_among L f r c zero = pos 0
turns_among L f r c (suc n) = dir_on L f (east c r) +ℤ turns_among L f r (c + 1) n

unfoldable pub turns : Layer → Edge → ℕ → ℕ → ℤ
turns L f c r = turns_among L f r c (L.size.width - 1 - c)

-- the contour is around the sample
abbrev pub around : Layer → Edge → ℕ → ℕ → Bool
around L f c r = ltb 0 (nat_abs (turns L f c r))

-- A contour is a bore if the west end of its first stick is inside, and else an outline. That an outline is "a contour that winds around the
-- inside ends of its sticks, a bore one that winds around the outside ends" is shown: `inside-value` and `outside-value` (proofs/Values.antt).
abbrev pub is_bore : Layer → Edge → Bool
is_bore L f = first_end L f

-- the first stick of the contour that a stick is on, and whether that is a bore
unfoldable pub first_of : Layer → Edge → Edge
first_of L e = edge_at L.size (low (walk_of L) e)

abbrev pub on_bore : Layer → Edge → Bool
on_bore L e = is_stick L e && is_bore L (first_of L e)

-- the turns around the two ends of an edge, and around the inside and the outside end of a stick
abbrev pub turns_at_first : Layer → Edge → Edge → ℤ
turns_at_first L f e = turns L f e.column e.row

abbrev pub turns_at_second : Layer → Edge → Edge → ℤ
turns_at_second L f e = cond e.vertical (turns L f e.column (e.row + 1)) (turns L f (e.column + 1) e.row)

abbrev pub turns_inside : Layer → Edge → Edge → ℤ
turns_inside L f e = cond (first_end L e) (turns_at_first L f e) (turns_at_second L f e)

abbrev pub turns_outside : Layer → Edge → Edge → ℤ
turns_outside L f e = cond (first_end L e) (turns_at_second L f e) (turns_at_first L f e)

-- the turns of several contours together, and of all
abbrev pub turns_of : Layer → List Edge → ℕ → ℕ → ℤ
turns_of L [] c r = pos 0
turns_of L (f ∷ l) c r = turns L f c r +ℤ turns_of L l c r

abbrev pub turns_together : Layer → ℕ → ℕ → ℤ
turns_together L c r = turns_of L (first_sticks L) c r

-- how many contours are around the sample
unfoldable pub contours_around : Layer → ℕ → ℕ → ℕ
contours_around L c r = among (λ f. around L f c r) (first_sticks L)

-- "which is the number of other contours around them": the depth of the contour that starts at g, by the west end of g. Any end of any of its
-- sticks would do: another contour has the same turns around all of them (`ends_same`, proofs/Nesting.antt).
unfoldable pub depth : Layer → Edge → ℕ
depth L g = among (λ f. not (same_edge f g) && around L f g.column g.row) (first_sticks L)
