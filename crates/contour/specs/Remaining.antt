-- What is left of a walk along a contour, and of the contours of a layer.
use Rattle.std.specs.Prelude.{Option, List, [], Some, None}
use Rattle.grid.specs.Layer.{Layer}
use Rattle.grid.specs.Plain.{plain}
use Rattle.grid.specs.declared.edge.Edge.{Edge}
use Rattle.contour.specs.Walk.{rest, firsts_from}
use Rattle.contour.specs.Contours.{walk_of}
use Rattle.contour.specs.declared.ascent.FirstSticks.{FirstSticks}
use Rattle.contour.specs.declared.lap.ContourWalk.{ContourWalk}

-- the sticks of the contour of f from one on, or none
abbrev pub left_from : Layer → Edge → Option Edge → List Edge
left_from L f None = []
left_from L f (Some e) = rest (walk_of L) e f

-- the sticks that a walk has still to come to
abbrev pub sticks_left : ContourWalk → List Edge
sticks_left s = left_from (plain s.layer) s.first s.at

-- the first sticks that are still to come
abbrev pub firsts_left : FirstSticks → List Edge
firsts_left s = firsts_from (walk_of (plain s.contours.layer)) s.from
