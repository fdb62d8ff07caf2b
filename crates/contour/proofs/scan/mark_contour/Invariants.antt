use Rattle.grid.specs.Plain.{plain}
use Rattle.contour.specs.Remaining.{sticks_left}
use Rattle.contour.proofs.Scanning.{PartMarked}
use Rattle.contour.proofs.scan.mark_contour.Given as goal

abbrev pub invariant-loop-e : goal.invariant-loop-e
invariant-loop-e l = PartMarked (plain l.layer) l.initial.set l.fn.first l.set (sticks_left l.e-iterator)
