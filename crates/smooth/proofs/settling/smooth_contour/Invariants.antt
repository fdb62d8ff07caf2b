use Rattle.grid.specs.Plain.{plain}
use Rattle.std.proofs.Common.{◌-◌}
use Rattle.smooth.proofs.Limits.{PartSettled}
use Rattle.smooth.proofs.settling.smooth_contour.Given as goal

abbrev pub invariant-loop-passes : goal.invariant-loop-passes
invariant-loop-passes l = PartSettled (plain l.layer) l.limit l.initial.table l.first l.table (l.passes - 1) l.total
