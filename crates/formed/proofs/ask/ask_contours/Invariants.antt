use Rattle.grid.specs.Plain.{plain}
use Rattle.contour.specs.Remaining.{firsts_left}
use Rattle.formed.proofs.Asking.{SheetAsked}
use Rattle.formed.proofs.ask.ask_contours.Given as goal

abbrev pub invariant-loop-first : goal.invariant-loop-first
invariant-loop-first l = SheetAsked (plain l.contours.layer) l.sheet l.place (firsts_left l.first-iterator)
