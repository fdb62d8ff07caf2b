use Prim.Native.Nat.{◌-◌}
use Rattle.grid.specs.Plain.{plain}
use Rattle.grid.specs.Edges.{edge_count}
use Rattle.reading.proofs.Asking.{Seeking}
use Rattle.reading.proofs.holding.kept_after.Given as goal

abbrev pub invariant-loop-at : goal.invariant-loop-at
invariant-loop-at l = Seeking (plain l.layer) l.sheet l.first l.initial.at l.at l.gap

abbrev pub decreases-loop-at : goal.decreases-loop-at
decreases-loop-at l = edge_count l.layer.size - l.gap
