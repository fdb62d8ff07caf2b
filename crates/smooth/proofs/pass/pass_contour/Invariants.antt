use lib.ListN.{length}
use Rattle.grid.specs.Plain.{plain}
use Rattle.contour.specs.Walk.{rest}
use Rattle.contour.specs.Contours.{walk_of}
use Rattle.smooth.proofs.Walking.{PartVisited}
use Rattle.smooth.proofs.pass.pass_contour.Given as goal

abbrev pub invariant-loop-at : goal.invariant-loop-at
invariant-loop-at l =
    PartVisited (plain l.layer) l.initial.e l.initial.table l.table l.e l.at l.p l.total l.vertices

abbrev pub decreases-loop-at : goal.decreases-loop-at
decreases-loop-at l = length (rest (walk_of (plain l.layer)) l.e l.initial.e)
