use Prim.Native.Nat.{◌+◌, ◌*◌}
use Rattle.grid.specs.Plain.{plain}
use Rattle.shoelace.proofs.Running.{ByteRun}
use Rattle.shoelace.specs.Running.{state, spot}
use Rattle.shoelace.proofs.sums.sums_in_byte.Given as goal

abbrev pub invariant-loop-b : goal.invariant-loop-b
invariant-loop-b l =
    ByteRun (plain l.layer) l.table l.vertical l.row l.at (spot l.layer.size l.vertical l.row (8 * l.at)) (state l.initial.sums l.initial.running)
    l.b-iterator.left (8 * l.at + l.b-iterator.at) (state l.sums l.running)
