use Rattle.grid.specs.Plain.{plain}
use Rattle.contour.specs.Remaining.{firsts_left}
use Rattle.smooth.proofs.Passes.{standing}
use Rattle.smooth.proofs.Rounds.{PartSmoothed}
use Rattle.smooth.proofs.settling.smooth_contours.Given as goal

abbrev pub invariant-loop-first : goal.invariant-loop-first
invariant-loop-first l =
    PartSmoothed (plain l.contours.layer) l.limit l.initial.table (standing l.table l.passes l.total l.settled) (firsts_left l.first-iterator)
