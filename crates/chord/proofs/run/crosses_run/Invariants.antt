use Rattle.std.proofs.Common.{◌-◌}
use Rattle.grid.specs.Plain.{plain}
use Rattle.step.proofs.Following.{TestsLeft}
use Rattle.chord.specs.Crossing.{crosses}
use Rattle.chord.specs.Runs.{crosses_run}
use Rattle.chord.proofs.run.crosses_run.Given as goal

abbrev pub invariant-loop : goal.invariant-loop
invariant-loop l =
    let L = plain l.layer in TestsLeft L (crosses l.p l.q) (crosses_run L l.p l.q l.initial.at l.count) l.at (l.count - l.counter)
