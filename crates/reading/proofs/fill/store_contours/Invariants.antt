use Rattle.grid.specs.Plain.{plain}
use Rattle.contour.specs.Remaining.{firsts_left}
use Rattle.reading.proofs.Storing.{Filling}
use Rattle.reading.proofs.fill.store_contours.Given as goal

abbrev pub invariant-loop-first : goal.invariant-loop-first
invariant-loop-first l = Filling (plain l.contours.layer) l.sheet l.place l.table (firsts_left l.first-iterator)
