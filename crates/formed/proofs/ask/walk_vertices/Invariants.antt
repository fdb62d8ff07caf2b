-- The answer for what is left of the contour from here is that for the whole of it.
use Rattle.grid.specs.Plain.{plain}
use Rattle.contour.specs.Remaining.{sticks_left}
use Rattle.formed.proofs.Asking.{Walking}
use Rattle.formed.proofs.ask.walk_vertices.Given as goal

abbrev pub invariant-loop : goal.invariant-loop
invariant-loop l = Walking (plain l.layer) l.sheet l.fn.first l.i (sticks_left l.iterator') l.place
