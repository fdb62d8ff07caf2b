use Prim.Native.Nat.{◌*◌}
use Rattle.grid.specs.Plain.{plain}
use Rattle.shoelace.specs.Running.{state, Onward, spot}
use Rattle.shoelace.proofs.sums.sums_in_row.Given as goal

abbrev pub invariant-loop-at : goal.invariant-loop-at
invariant-loop-at l =
    Onward (plain l.layer) l.table (spot l.layer.size l.vertical l.row 0) (state l.initial.sums l.initial.running)
    (spot l.layer.size l.vertical l.row (8 * l.at)) (state l.sums l.running)
