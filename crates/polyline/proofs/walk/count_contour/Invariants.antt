use Rattle.grid.specs.Plain.{plain}
use Rattle.contour.specs.Remaining.{sticks_left}
use Rattle.polyline.proofs.Walking.{PartTallied}
use Rattle.polyline.proofs.walk.count_contour.Given as goal

abbrev pub invariant-loop-e : goal.invariant-loop-e
invariant-loop-e l = PartTallied (plain l.layer) l.table l.fn.first (sticks_left l.e-iterator) l.kept
