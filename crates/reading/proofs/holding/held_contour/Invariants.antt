use Rattle.grid.specs.Plain.{plain}
use Rattle.contour.specs.Remaining.{sticks_left}
use Rattle.reading.proofs.Asking.{CountedAt}
use Rattle.reading.proofs.holding.held_contour.Given as goal

abbrev pub invariant-loop-stick : goal.invariant-loop-stick
invariant-loop-stick l = CountedAt (plain l.layer) l.sheet l.first (sticks_left l.stick-iterator) l.place l.kept
