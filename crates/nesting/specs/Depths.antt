-- Lists of first sticks, and the depths of their contours.
use Rattle.std.specs.Prelude.{List, map}
use Rattle.std.specs.List.{AllPass}
use Rattle.grid.specs.Layer.{Layer}
use Rattle.grid.specs.declared.edge.Edge.{Edge}
use Rattle.contour.specs.Walk.{first}
use Rattle.contour.specs.Contours.{walk_of}
use Rattle.winding.specs.Turns.{depth}
use Rattle.nesting.specs.declared.nested.Nested.{Nested}

pub record AllFirst (L : Layer) (l : List Edge) : Type 0 where
  pub each : AllPass (first (walk_of L)) l

-- each with the depth of its contour
abbrev pub with_depths : Layer → List Edge → List Nested
with_depths L l = map (λ f. record { first = f; depth = depth L f }) l
