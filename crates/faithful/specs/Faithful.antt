-- What a held layer is shown to be, said of all points X, Y, D: contours closed and made of all sticks, an entry for each edge and a vertex
-- inside each stick, drawn edges apart, and contours passing between adjacent samples once where they differ and never where they agree.
-- proofs/Faithful.antt has the theorem that a layer that passes questions 1 to 7 is faithful, proofs/Examples.antt tables that are not.
use Rattle.std.specs.Prelude.{◌≡◌, ◌⊎◌, ◌≢◌, true, false, List, ℕ, ◌≤◌, length}
use Rattle.arith.specs.Lists.{among}
use Rattle.grid.specs.Layer.{Layer}
use Rattle.grid.specs.Edges.{in_grid, edge_count, first_end, second_end, is_stick}
use Rattle.grid.specs.declared.edge.Edge.{Edge}
use Rattle.contour.specs.Walk.{first, occurrences, Round}
use Rattle.contour.specs.Contours.{walk_of, contour_of}
use Rattle.chord.specs.Points.{start, end, Point, point, Same, On}
use Rattle.table.specs.Vertices.{entry_at, kept_at}
use Rattle.table.specs.declared.entry.Entry.TheVariants.{Nothing}
use Rattle.drawn.specs.Neighbours.{next_kept}
use Rattle.drawn.specs.Drawn.{vertex, VertexInside, Drawn, OnDrawn, drawn_of, Leads}

-- "A contour is closed if it has three kept vertices or more, its walk comes back to its first stick with no other met twice, and its
-- drawn edges, each beginning where the one before ended, come back to where the first began."
pub record ContourClosed (L : Layer) (t : List ℕ) (f : Edge) : Type 0 where
  pub three : 3 ≤ among (kept_at L t) (contour_of L f)
  pub returns : Round (walk_of L) f (length (contour_of L f))
  pub begin : Edge
  pub comes_back : Leads begin (drawn_of L t f) begin

-- e lies on exactly one contour, once: it stands once in the contour of `start_stick`, and not in that of any other first stick
pub record OnOneContour (L : Layer) (e : Edge) : Type 0 where
  pub start_stick : Edge
  pub is-first : first (walk_of L) start_stick ≡ true
  pub once : occurrences (walk_of L) e (contour_of L start_stick) ≡ 1
  pub elsewhere : (f : Edge) → first (walk_of L) f ≡ true → f ≢ start_stick → occurrences (walk_of L) e (contour_of L f) ≡ 0

-- "Two drawn edges are neighbours if one ends at the kept vertex where the other begins": z is the vertex of q, where the edge from p ends
pub record AtJoint (L : Layer) (t : List ℕ) (p q : Edge) (z : Point) : Type 0 where
  pub joined : next_kept L t p ≡ q
  pub common : Same z (point (vertex L t q))

-- "contours pass between two adjacent samples as often as there are different such points on both a drawn edge and the segment from one
-- sample to the other": the samples at the ends of the edge e, and z is such a point
pub record Passes (L : Layer) (t : List ℕ) (e : Edge) (z : Point) : Type 0 where
  pub from : Edge
  pub drawn : Drawn L t from
  pub on_drawn : OnDrawn L t from z
  pub on_segment : On z (start e) (end e)

-- The end of demand 3, one field or more to each clause.
pub record Faithful (L : Layer) (t : List ℕ) : Type 0 where
  -- Each contour is closed,
  pub closed : (f : Edge) → first (walk_of L) f ≡ true → ContourClosed L t f
  -- and these are contours of the sticks: each stick, and so each drawn edge, lies on exactly one of them, once,
  pub on_one : (e : Edge) → is_stick L e ≡ true → OnOneContour L e
  -- and an edge that is no stick on none.
  pub on_none : (e : Edge) → is_stick L e ≡ false → (f : Edge) → first (walk_of L) f ≡ true → occurrences (walk_of L) e (contour_of L f) ≡ 0
  -- "The hold table has one 16-bit number per grid edge": no entry is missing, and none is left over.
  pub exact : length t ≡ edge_count L.size
  -- Each vertex, kept or removed, lies strictly inside its stick, and each stick has one;
  pub vertices : (e : Edge) → is_stick L e ≡ true → VertexInside L t e
  -- "0 for no stick": an edge of the grid that is no stick has none.
  pub no_vertices : (e : Edge) → in_grid L.size e ≡ true → is_stick L e ≡ false → entry_at L t e ≡ Nothing
  -- No two drawn edges share a point, except that neighbours share their common vertex.
  pub apart : (p q : Edge) → Drawn L t p → Drawn L t q → p ≢ q → (z : Point) → OnDrawn L t p z → OnDrawn L t q z
      → AtJoint L t p q z ⊎ AtJoint L t q p z
  -- Contours pass between two adjacent samples, the ends of an edge of the grid, exactly once where they differ
  pub passes : (e : Edge) → in_grid L.size e ≡ true → first_end L e ≢ second_end L e → (z : Point) × Passes L t e z
  pub passes_once : (e : Edge) → in_grid L.size e ≡ true → first_end L e ≢ second_end L e
      → (z w : Point) → Passes L t e z → Passes L t e w → Same z w
  -- and never where they agree.
  pub passes_never : (e : Edge) → in_grid L.size e ≡ true → first_end L e ≡ second_end L e → (z : Point) → ¬ Passes L t e z
