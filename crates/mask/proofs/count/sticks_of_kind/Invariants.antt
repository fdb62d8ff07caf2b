use Rattle.arith.proofs.Counting.{CountedTo}
use Rattle.grid.specs.Plain.{plain}
use Rattle.grid.specs.Edges.{edge_columns, edge_rows, stick_of}
use Rattle.mask.proofs.count.sticks_of_kind.Given as goal

abbrev pub invariant-loop-row : goal.invariant-loop-row
invariant-loop-row l =
    CountedTo (stick_of (plain l.layer) l.vertical) (edge_columns l.layer.size l.vertical) (edge_rows l.layer.size l.vertical) l.row l.total
