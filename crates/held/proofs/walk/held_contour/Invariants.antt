use Rattle.grid.specs.Plain.{plain}
use Rattle.contour.specs.Remaining.{sticks_left}
use Rattle.held.proofs.Asking.{Counted}
use Rattle.held.proofs.walk.held_contour.Given as goal

abbrev pub invariant-loop-e : goal.invariant-loop-e
invariant-loop-e l = Counted (plain l.layer) l.table l.fn.first (sticks_left l.e-iterator) l.kept
