use Rattle.grid.specs.Plain.{plain}
use Rattle.contour.specs.Remaining.{sticks_left}
use Rattle.sheet.proofs.Contours.{AtVertex}
use Rattle.sheet.proofs.walk.put_vertices.Given as goal

abbrev pub invariant-loop-e : goal.invariant-loop-e
invariant-loop-e l = AtVertex (plain l.layer) l.table l.fn.first l.initial.sheet l.start l.sheet l.at (sticks_left l.e-iterator)
