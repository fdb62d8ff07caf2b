-- `scan_row` meets its contract. The invariant: the scan stands at column 8 × at of the row, or at its end.
use native.Mathlib.Omega.{arith}
use Rattle.contour.proofs.Scanning.{row_last}
use Rattle.contour.proofs.scan.scan_row.Goals as goal

pub stride_of-at-end-requires : goal.stride_of-at-end-requires
stride_of-at-end-requires c = c.requires.scanned.sound.whole.sized

pub loop-at-init : goal.loop-at-init
loop-at-init c = c.requires

pub scan_byte-requires : goal.scan_byte-requires
scan_byte-requires c =
    record { at_bound = rw c.stride_of-at-end.ensures at c.loop-at-test.true; scanned_to = c.loop-at.invariant }

pub loop-at-preserved : goal.loop-at-preserved
loop-at-preserved c = c.scan_byte.ensures

pub returns : goal.returns
returns c =
    let bytes = c.stride_of-at-end.ensures in
    row_last c.loop-at.invariant (omega arith)
