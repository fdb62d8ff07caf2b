use Rattle.grid.specs.Plain.{plain}
use Rattle.contour.specs.Remaining.{sticks_left}
use Rattle.reading.proofs.Storing.{Storing}
use Rattle.reading.proofs.fill.store_vertices.Given as goal

abbrev pub invariant-loop-e : goal.invariant-loop-e
invariant-loop-e l = Storing (plain l.layer) l.sheet l.fn.first l.i l.initial.table (sticks_left l.e-iterator) l.place l.table
