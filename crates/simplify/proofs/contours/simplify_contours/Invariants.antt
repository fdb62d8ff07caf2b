use Rattle.grid.specs.Plain.{plain}
use Rattle.contour.specs.Remaining.{firsts_left}
use Rattle.simplify.proofs.Layers.{ContoursLeft}
use Rattle.simplify.proofs.contours.simplify_contours.Given as goal

abbrev pub invariant-loop-first : goal.invariant-loop-first
invariant-loop-first l =
    ContoursLeft (plain l.contours.layer) l.t l.initial.table (record { table = l.table; removed = l.removed; tried = l.tried }) (firsts_left l.first-iterator)
