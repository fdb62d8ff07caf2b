use Rattle.grid.specs.Plain.{plain}
use Rattle.contour.specs.Remaining.{firsts_left}
use Rattle.nesting.proofs.Marking.{BoresMarked}
use Rattle.nesting.proofs.bore.bore_sticks.Given as goal

abbrev pub invariant-loop-first : goal.invariant-loop-first
invariant-loop-first l = BoresMarked (plain l.contours.layer) (firsts_left l.first-iterator) l.bores
