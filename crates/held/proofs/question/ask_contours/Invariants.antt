use Rattle.grid.specs.Plain.{plain}
use Rattle.contour.specs.Remaining.{firsts_left}
use Rattle.held.proofs.Asking.{Asked}
use Rattle.held.proofs.question.ask_contours.Given as goal

abbrev pub invariant-loop-first : goal.invariant-loop-first
invariant-loop-first l = Asked (plain l.contours.layer) l.table (firsts_left l.first-iterator)
