use Rattle.grid.specs.Plain.{plain}
use Rattle.shoelace.specs.Running.{state, Onward, spot}
use Rattle.shoelace.proofs.sums.sums_of_kind.Given as goal

abbrev pub invariant-loop-row : goal.invariant-loop-row
invariant-loop-row l =
    Onward (plain l.layer) l.table (spot l.layer.size l.vertical 0 0) (state l.initial.sums l.initial.running)
    (spot l.layer.size l.vertical l.row 0) (state l.sums l.running)
