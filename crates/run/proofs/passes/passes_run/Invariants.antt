use Rattle.grid.specs.Plain.{plain}
use Rattle.std.proofs.Common.{◌-◌}
use Rattle.run.specs.Runs.{chord_passes, passes}
use Rattle.step.proofs.Following.{TestsLeft}
use Rattle.run.proofs.passes.passes_run.Given as goal

abbrev pub invariant-loop : goal.invariant-loop
invariant-loop l =
    let L = plain l.layer in
    TestsLeft L (chord_passes L l.table l.t l.p l.q) (passes L l.table l.t l.initial.at l.n) l.at (l.n - l.counter)
