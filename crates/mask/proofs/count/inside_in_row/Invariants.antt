use Rattle.arith.proofs.Counting.{CountedTo}
use Rattle.grid.specs.Plain.{plain}
use Rattle.grid.specs.Layer.{stride, sample_in}
use Rattle.mask.proofs.count.inside_in_row.Given as goal

abbrev pub invariant-loop-at : goal.invariant-loop-at
invariant-loop-at l = CountedTo (sample_in (plain l.layer) l.row) 8 (stride l.layer.size) l.at l.total
