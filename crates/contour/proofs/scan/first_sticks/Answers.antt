-- `first_sticks` meets its contract. The invariant: the scan stands at the start of the row.
use native.Mathlib.Omega.{arith}
use Rattle.contour.proofs.Scanning.{rows_start, row-start, rows-turn, rows_last}
use Rattle.contour.proofs.scan.first_sticks.Goals as goal

pub loop-row-init : goal.loop-row-init
loop-row-init c = let given = c.requires in rows_start c.args.layer.sound given.empty

pub scan_row-requires : goal.scan_row-requires
scan_row-requires c = row-start c.loop-row.invariant c.loop-row-test.true

pub loop-row-preserved : goal.loop-row-preserved
loop-row-preserved c = rows-turn c.loop-row-test.true c.scan_row.ensures

pub returns : goal.returns
returns c = rows_last c.loop-row.invariant (omega arith)
