-- Marks along a contour: the numbers of its sticks at equal distances, from its first one on.
use Rattle.std.specs.Prelude.{◌≡◌, true, List, ℕ, ◌+◌, ◌*◌, ◌<◌, length, get_or}
use Rattle.grid.specs.Layer.{Layer}
use Rattle.grid.specs.Edges.{number, is_stick}
use Rattle.grid.specs.Questions.{Sound}
use Rattle.grid.specs.declared.edge.Edge.{Edge}
use Rattle.contour.specs.Contours.{contour_of}
use Rattle.run.specs.Runs.{stick_after}

-- how many marks there is room for: a contour has at most 2,095,104 sticks, and one in 64 is marked
abbrev pub mark_places : ℕ
mark_places = 32736

-- mark k is the number of the stick 64 * k steps on from f, as far as there are marks and sticks
abbrev pub MarkedAlong : Layer → Edge → List ℕ → Type 0
MarkedAlong L f marks = (k : ℕ) → k < length marks → k * 64 < length (contour_of L f) → get_or marks k 0 ≡ number L.size (stick_after L (k * 64) f)

-- e is p steps on from where the marks start, and h steps on from e the contour is not yet all walked
pub record Along (L : Layer) (marks : List ℕ) (e : Edge) (p h : ℕ) : Type 0 where
  pub sound : Sound L
  pub from : Edge
  pub stick : is_stick L from ≡ true
  pub marked : MarkedAlong L from marks
  pub here : e ≡ stick_after L p from
  pub inside : p + h < length (contour_of L from)
