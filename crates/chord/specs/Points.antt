-- Points, segments, crossing and sliding as the paper speaks of them ('Samples and sticks', 'The calls'): over whole numbers, and over
-- all points, on the 1/256 grid or off it. The tests that compute are in Crossing.antt; proofs/ shows that they agree.
use Rattle.std.specs.Prelude.{◌≡◌, cond, ℕ, ◌+◌, ◌*◌, ◌≤◌, ◌<◌, min, max, ℤ, pos, nat_abs, ◌-ℤ◌, ◌*ℤ◌, ◌≤ℤ◌}
use Rattle.std.proofs.Common.{arith}
use Rattle.grid.specs.declared.edge.Edge.{Edge}
use Rattle.chord.specs.declared.position.Position as declared

-- where a sample or a vertex is, x and y in 1/256 of the pitch from sample (0,0): the struct of src/position.rt
abbrev pub Position : Type 0
Position = declared.Position

-- "A horizontal grid edge (kind 0) at (c,r) runs from (c,r) to (c+1,r) .. A vertical one (kind 1) at (c,r) runs to (c,r+1) .. A vertex
-- lies at offset 1 to 255, in 1/256 of the pitch from (c,r)."
abbrev pub position : Edge → ℕ → Position
position e o =
    cond e.vertical
    (record { x = 256 * e.column; y = 256 * e.row + o })
    (record { x = 256 * e.column + o; y = 256 * e.row })

-- the samples at the two ends of an edge
abbrev pub start : Edge → Position
start e = position e 0

abbrev pub end : Edge → Position
end e = position e 256

-- "a point is X, Y and a D above 0, standing for X/D and Y/D in 1/256 of the pitch"
pub record Point : Type 0 where
  pub x : ℤ
  pub y : ℤ
  pub d : ℕ
  pub above : 0 < d

-- a position as a point
abbrev pub point : Position → Point
point p = record { x = pos p.x; y = pos p.y; d = 1; above = omega arith }

-- "and two are the same if they agree when multiplied out"
pub record Same (z w : Point) : Type 0 where
  pub same_x : z.x *ℤ pos w.d ≡ w.x *ℤ pos z.d
  pub same_y : z.y *ℤ pos w.d ≡ w.y *ℤ pos z.d

-- a point's signed differences from a position, multiplied out by D
abbrev pub from_x : Point → Position → ℤ
from_x z p = z.x -ℤ pos (z.d * p.x)

abbrev pub from_y : Point → Position → ℤ
from_y z p = z.y -ℤ pos (z.d * p.y)

-- between two numbers, ends included
pub record Between (m n : ℕ) (z : ℤ) : Type 0 where
  pub least : pos (min m n) ≤ℤ z
  pub most : z ≤ℤ pos (max m n)

-- "A point lies on a segment if, multiplied out by D, its signed differences from the two ends have cross product 0 and its coordinates
-- lie between theirs, ends included."
pub record On (z : Point) (p q : Position) : Type 0 where
  pub cross : from_x z p *ℤ from_y z q -ℤ from_y z p *ℤ from_x z q ≡ pos 0
  pub x_between : Between (z.d * p.x) (z.d * q.x) z.x
  pub y_between : Between (z.d * p.y) (z.d * q.y) z.y

-- "Meeting, crossing and sharing a point are said of all such points": the segments from p to q and from r to s share the point z
pub record Shared (z : Point) (p q r s : Position) : Type 0 where
  pub on_first : On z p q
  pub on_second : On z r s

-- the segment from p to q meets the edge in z, which may be one of the edge's samples
abbrev pub Meets : Point → Position → Position → Edge → Type 0
Meets z p q e = Shared z p q (start e) (end e)

-- "An edge whose samples differ is a stick, its end samples excluded." "It crosses a stick if it meets it in one point strictly inside."
pub record Crosses (p q : Position) (e : Edge) : Type 0 where
  pub at : Point
  pub meets : Meets at p q e
  pub not_start : ¬ Same at (point (start e))
  pub not_end : ¬ Same at (point (end e))
  pub only : (z w : Point) → Meets z p q e → Meets w p q e → Same z w

-- the signed difference, along the edge, of a point from offset o, multiplied out by D
abbrev pub slide : Point → Edge → ℕ → ℤ
slide z e o = cond e.vertical (from_y z (position e o)) (from_x z (position e o))

-- "each vertex there would slide at most T (in 1/256, compared exactly)": from offset o of the edge to the point z of it
abbrev pub SlidesWithin : ℕ → Point → Edge → ℕ → Type 0
SlidesWithin t z e o = nat_abs (slide z e o) ≤ t * z.d

-- every point where the segment from p to q meets the edge is at most T from the vertex at offset o
abbrev pub MeetsWithin : ℕ → Position → Position → Edge → ℕ → Type 0
MeetsWithin t p q e o = (z : Point) → Meets z p q e → SlidesWithin t z e o

-- "its chord crosses each stick between and each vertex there would slide at most T": at one stick, whose vertex has offset o
pub record CrossesWithin (t : ℕ) (p q : Position) (e : Edge) (o : ℕ) : Type 0 where
  pub crossed : Crosses p q e
  pub within : MeetsWithin t p q e o
