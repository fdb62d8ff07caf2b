use Rattle.grid.specs.Plain.{plain}
use Rattle.std.proofs.Common.{◌≡◌}
use Rattle.run.specs.Runs.{stick_after}
use Rattle.run.proofs.walk.stick_after.Given as goal

abbrev pub invariant-loop : goal.invariant-loop
invariant-loop l = l.at ≡ stick_after (plain l.layer) l.counter l.initial.at
