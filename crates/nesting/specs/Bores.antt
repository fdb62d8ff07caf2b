-- The set of the horizontal sticks that lie on bores, and how it is filled.
use Rattle.std.specs.Prelude.{◌≡◌, true, cond, ℕ, ◌+◌, ◌-◌, ◌*◌, length}
use mathlib.Core.List.{List, foldl}
use Rattle.grid.specs.Layer.{Layer}
use Rattle.grid.specs.Edges.{is_stick}
use Rattle.grid.specs.Questions.{Sound}
use Rattle.grid.specs.declared.edge.Edge.{Edge}
use Rattle.bitset.specs.Sets.{words, has}
use Rattle.contour.specs.Contours.{contour_of}
use Rattle.contour.specs.Marking.{mark_edge}
use Rattle.winding.specs.Turns.{east, is_bore, on_bore}

-- the contour that starts at f put into the set, if it is a bore
abbrev pub mark_bore : Layer → List ℕ → Edge → List ℕ
mark_bore L s f = cond (is_bore L f) (foldl (mark_edge L.size) s (contour_of L f)) s

-- the bit of a horizontal stick of a sound layer says whether it lies on a bore
pub record BoreSet (L : Layer) (s : List ℕ) : Type 0 where
  pub sound : Sound L
  pub sized : length s ≡ words
  pub says : (c r : ℕ) → is_stick L (east c r) ≡ true → has s (r * (L.size.width - 1) + c) ≡ on_bore L (east c r)
