-- Runs along a contour, and when one passes. A run is a stick and a number of edges: from the vertex of the stick to that of the stick
-- so many steps on.
use Rattle.std.specs.Prelude.{◌≡◌, Bool, true, not, ◌&&◌, List, ℕ, ◌-◌, length}
use Rattle.arith.specs.Lists.{each}
use Rattle.grid.specs.Layer.{Layer}
use Rattle.grid.specs.Edges.{edge_count, is_stick}
use Rattle.grid.specs.Questions.{Sound}
use Rattle.grid.specs.declared.edge.Edge.{Edge}
use Rattle.step.specs.Walk.{following}
use Rattle.contour.specs.Walk.{ahead}
use Rattle.contour.specs.Contours.{walk_of, contour_of}
use Rattle.chord.specs.Points.{Position}
use Rattle.chord.specs.Crossing.{crosses, slides_within}
use Rattle.table.specs.Vertices.{pinned_at, offset_at}
use Rattle.drawn.specs.Drawn.{vertex}

-- the stick n steps on from e
abbrev pub stick_after : Layer → ℕ → Edge → Edge
stick_after L n e = ahead (walk_of L) n e

-- the sticks between the ends of a run of n edges
abbrev pub between : Layer → Edge → ℕ → List Edge
between L e n = following L (n - 1) e

-- "its chord crosses each stick between and each vertex there would slide at most T (in 1/256, compared exactly)": at one stick. "Simplify lets
-- no run pass that has one strictly inside", a pinned vertex (Note 5)
abbrev pub chord_passes : Layer → List ℕ → ℕ → Position → Position → Edge → Bool
chord_passes L t tolerance p q u = crosses p q u && slides_within tolerance p q u (offset_at L t u) && not (pinned_at L t u)

-- "A run passes if it is a single edge, or if its chord crosses each stick between and each vertex there would slide at most T": a single
-- edge has no stick between. And no vertex between is pinned (Note 5). Over points this is `RunPasses` (Meaning.antt).
unfoldable pub passes : Layer → List ℕ → ℕ → Edge → ℕ → Bool
passes L t tolerance e n = each (chord_passes L t tolerance (vertex L t e) (vertex L t (stick_after L n e))) (between L e n)

-- What the contracts of the code cite besides

-- the contour that starts at the stick f of a sound layer has n sticks
pub record HasSticks (L : Layer) (f : Edge) (n : ℕ) : Type 0 where
  pub sound : Sound L
  pub stick : is_stick L f ≡ true
  pub all : n ≡ length (contour_of L f)

-- the run of n edges from the stick e ends at the stick `end`, and the table t has an entry for each edge of the layer
pub record RunLent (L : Layer) (t : List ℕ) (e end : Edge) (n : ℕ) : Type 0 where
  pub sound : Sound L
  pub exact : length t ≡ edge_count L.size
  pub stick : is_stick L e ≡ true
  pub ends : end ≡ stick_after L n e
