use Rattle.grid.specs.Plain.{plain}
use Rattle.contour.specs.Remaining.{sticks_left}
use Rattle.area.proofs.Summing.{PartSummed}
use Rattle.area.proofs.walk.contour_area.Given as goal

abbrev pub invariant-loop-e : goal.invariant-loop-e
invariant-loop-e l = PartSummed (plain l.layer) l.table l.fn.first (sticks_left l.e-iterator) l.walked
