-- A polygon that has one vertex on every stick of a contour, in walk order, and what the contour encloses. Coordinates are whole numbers at a
-- pitch G of the grid, so that a vertex on the edge e lies at an offset o e of it, strictly between 0 and G.
use Rattle.std.specs.Prelude.{◌≡◌, true, cond, ℕ, ◌+◌, ◌*◌, ◌≤◌, ◌<◌, length}
use Rattle.arith.specs.Booleans.{as_number}
use Rattle.arith.specs.Finite.{sum_over}
use Rattle.arith.specs.Levels.{total}
use Rattle.grid.specs.Layer.{Layer, sample}
use Rattle.grid.specs.Edges.{is_stick}
use Rattle.grid.specs.declared.edge.Edge.{Edge}
use Rattle.step.specs.Walk.{next}
use Rattle.contour.specs.Walk.{walked}
use Rattle.contour.specs.Contours.{walk_of, contour_of, first_sticks}
use Rattle.winding.specs.Turns.{is_on, around, is_bore}

-- the vertex on e
abbrev pub x_at : ℕ → (Edge → ℕ) → Edge → ℕ
x_at G o e = G * e.column + cond e.vertical 0 (o e)

abbrev pub y_at : ℕ → (Edge → ℕ) → Edge → ℕ
y_at G o e = G * e.row + cond e.vertical (o e) 0

-- The polygon's edge from the stick e to the next adds its start's X times its end's Y to twice the signed area, and takes its end's X times its
-- start's Y from it: the sums of both over the contour that starts at f.
abbrev pub added : Layer → ℕ → (Edge → ℕ) → Edge → ℕ
added L G o f = total (λ e. x_at G o e * y_at G o (next L e)) (contour_of L f)

abbrev pub taken : Layer → ℕ → (Edge → ℕ) → Edge → ℕ
taken L G o f = total (λ e. x_at G o (next L e) * y_at G o e) (contour_of L f)

-- how many samples the contour is around
unfoldable pub enclosed : Layer → Edge → ℕ
enclosed L f = sum_over (λ c r. as_number (around L f c r)) L.size.width L.size.height

-- how many samples are inside
unfoldable pub inside : Layer → ℕ
inside L = sum_over (λ c r. as_number (sample L c r)) L.size.width L.size.height

-- the vertex on each stick of the contour lies strictly inside it
abbrev pub Offsets : Layer → ℕ → (Edge → ℕ) → Edge → Type 0
Offsets L G o f = (e : Edge) → is_on L f e ≡ true → (0 < o e) × (o e < G)

-- and that on each stick of the layer
abbrev pub AllOffsets : Layer → ℕ → (Edge → ℕ) → Type 0
AllOffsets L G o = (e : Edge) → is_stick L e ≡ true → (0 < o e) × (o e < G)

-- `more` is more than `less` by twice an area, in 1/(G × G) of a square pitch: at least half a unit for each of n sticks, and less than n/2 square
-- pitches from N of them
pub record Encloses (G n N more less : ℕ) : Type 0 where
  pub above : less + n ≤ more
  pub least : 2 * (G * G * N) + less + n ≤ more + G * G * n
  pub most : more + n ≤ 2 * (G * G * N) + less + G * G * n

-- What is shown of every such polygon (proofs/Enclosed.antt): the edges of an outline's add more than they take, those of a bore's take more than they
-- add, by about a square pitch for each sample that the contour is around.
abbrev pub EnclosedBy : Layer → ℕ → (Edge → ℕ) → Edge → Type 0
EnclosedBy L G o f =
    Encloses G (length (contour_of L f)) (enclosed L f)
    (cond (is_bore L f) (taken L G o f) (added L G o f)) (cond (is_bore L f) (added L G o f) (taken L G o f))

-- The polygons of all contours together add more than they take, by about a square pitch for each inside sample.
abbrev pub EnclosesInside : Layer → ℕ → (Edge → ℕ) → Type 0
EnclosesInside L G o =
    Encloses G (length (walked (walk_of L))) (inside L) (total (added L G o) (first_sticks L)) (total (taken L G o) (first_sticks L))
