use Rattle.grid.specs.Plain.{plain}
use Rattle.contour.specs.Remaining.{firsts_left}
use Rattle.sheet.proofs.Contours.{AtContour}
use Rattle.sheet.proofs.walk.put_contours.Given as goal

abbrev pub invariant-loop-first : goal.invariant-loop-first
invariant-loop-first l = AtContour (plain l.contours.layer) l.table l.initial.sheet l.start l.sheet l.place (firsts_left l.first-iterator)
