use Prim.Native.Nat.{◌-◌}
use Rattle.grid.specs.Plain.{plain}
use Rattle.grid.specs.Edges.{edge_count}
use Rattle.drawn.proofs.GapWalk.{Passed}
use Rattle.drawn.proofs.walk.kept_by.Given as goal

abbrev pub invariant-loop-gap : goal.invariant-loop-gap
invariant-loop-gap g l = let L = plain l.layer in Passed (g.W.Way.onward L) (g.W.Way.undo L) L l.table l.initial.at l.at l.gap

abbrev pub decreases-loop-gap : goal.decreases-loop-gap
decreases-loop-gap g l = edge_count l.layer.size - l.gap
