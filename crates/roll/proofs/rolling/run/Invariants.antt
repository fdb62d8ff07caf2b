use Prim.Native.Nat.{◌-◌}
use lib.ListN.{length}
use Rattle.grid.specs.Plain.{plain}
use Rattle.roll.proofs.Steps.{Running}
use Rattle.roll.proofs.rolling.run.Given as goal

abbrev pub invariant-loop-next : goal.invariant-loop-next
invariant-loop-next l =
    Running (plain l.layer) l.t l.roll l.initial.table l.table l.at l.done

abbrev pub decreases-loop-next : goal.decreases-loop-next
decreases-loop-next l = length l.roll - l.at
