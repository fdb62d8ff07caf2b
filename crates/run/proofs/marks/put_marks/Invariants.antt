use Rattle.grid.specs.Plain.{plain}
use Rattle.run.proofs.Marking.{MarksPut}
use Rattle.run.proofs.marks.put_marks.Given as goal

abbrev pub invariant-loop-k : goal.invariant-loop-k
invariant-loop-k l = MarksPut (plain l.layer) l.initial.at l.n l.marks l.at l.k
