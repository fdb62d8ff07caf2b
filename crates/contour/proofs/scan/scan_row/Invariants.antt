use Prim.Native.Nat.{◌*◌}
use Rattle.grid.specs.Plain.{plain}
use Rattle.contour.specs.Marking.{ScannedTo}
use Rattle.contour.proofs.scan.scan_row.Given as goal

abbrev pub invariant-loop-at : goal.invariant-loop-at
invariant-loop-at l = ScannedTo (plain l.layer) l.row (8 * l.at) l.set
