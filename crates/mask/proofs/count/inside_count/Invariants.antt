use Rattle.arith.proofs.Counting.{CountedTo}
use Rattle.grid.specs.Plain.{plain}
use Rattle.grid.specs.Layer.{sample_at}
use Rattle.mask.proofs.count.inside_count.Given as goal

abbrev pub invariant-loop-row : goal.invariant-loop-row
invariant-loop-row l = CountedTo (sample_at (plain l.layer)) l.layer.size.width l.layer.size.height l.row l.total
