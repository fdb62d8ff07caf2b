use Rattle.grid.specs.Plain.{plain}
use Rattle.contour.proofs.Scanning.{RowsScanned}
use Rattle.contour.proofs.scan.first_sticks.Given as goal

abbrev pub invariant-loop-row : goal.invariant-loop-row
invariant-loop-row l = RowsScanned (plain l.layer) l.set l.row
