use Rattle.arith.proofs.Counting.{CountedTo}
use Rattle.grid.specs.Plain.{plain}
use Rattle.grid.specs.Layer.{stride}
use Rattle.grid.specs.Edges.{stick_in}
use Rattle.mask.proofs.count.sticks_in_row.Given as goal

abbrev pub invariant-loop-at : goal.invariant-loop-at
invariant-loop-at l = CountedTo (stick_in (plain l.layer) l.vertical l.row) 8 (stride l.layer.size) l.at l.total
