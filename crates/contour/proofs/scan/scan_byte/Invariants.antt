use Prim.Native.Nat.{◌+◌, ◌*◌}
use Rattle.grid.specs.Plain.{plain}
use Rattle.contour.proofs.Scanning.{ByteScanned}
use Rattle.contour.proofs.scan.scan_byte.Given as goal

abbrev pub invariant-loop-b : goal.invariant-loop-b
invariant-loop-b l = ByteScanned (plain l.layer) l.at l.row l.set l.b-iterator.left (8 * l.at + l.b-iterator.at)
