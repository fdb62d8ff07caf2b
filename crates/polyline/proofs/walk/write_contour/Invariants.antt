use Rattle.grid.specs.Plain.{plain}
use Rattle.contour.specs.Remaining.{sticks_left}
use Rattle.item.specs.Writing.{buffers_of}
use Rattle.polyline.proofs.Walking.{PartWritten}
use Rattle.polyline.proofs.walk.write_contour.Given as goal

abbrev pub invariant-loop-e : goal.invariant-loop-e
invariant-loop-e l =
    PartWritten (plain l.layer) l.table l.fn.first (sticks_left l.e-iterator) l.due (buffers_of l.items l.points l.at)
    (buffers_of l.initial.items l.initial.points l.initial.at)
