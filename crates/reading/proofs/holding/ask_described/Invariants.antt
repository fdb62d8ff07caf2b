use Rattle.grid.specs.Plain.{plain}
use Rattle.contour.specs.Remaining.{firsts_left}
use Rattle.reading.proofs.Asking.{AskedFrom}
use Rattle.reading.proofs.holding.ask_described.Given as goal

abbrev pub invariant-loop-stick : goal.invariant-loop-stick
invariant-loop-stick l = AskedFrom (plain l.contours.layer) l.sheet l.place (firsts_left l.stick-iterator)
