use Rattle.grid.specs.Plain.{plain}
use Rattle.run.proofs.Steps.{RemovalsLeft}
use Rattle.run.proofs.walk.remove_inner.Given as goal

abbrev pub invariant-loop : goal.invariant-loop
invariant-loop l = RemovalsLeft (plain l.layer) l.initial.table l.initial.at l.n l.table l.at l.counter
