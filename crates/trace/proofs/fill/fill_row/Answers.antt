-- `fill_row` meets its contract. The invariant: the entries of the pieces passed are written. What follows from a piece is in `table`
-- proofs/Pieces.
use mathlib.Core.Path.{◌≡◌}
use native.Mathlib.Omega.{arith}
use Rattle.arith.proofs.Ranges.{fill_none}
use Rattle.table.proofs.Pieces.{reached, piece, lent-run}
use Rattle.trace.proofs.Entries.{row-lent, row-turn}
use Rattle.trace.proofs.fill.fill_row.Goals as goal

pub loop-at-init : goal.loop-at-init
loop-at-init c =
    let none : reached c.args.layer.size c.args.vertical 0 ≡ 0 = omega arith in
    rw none (fill_none _ _ _)

pub slice_bounds-fill_run-end : goal.slice_bounds-fill_run-end
slice_bounds-fill_run-end c =
    let here = piece c.edge_columns-columns.ensures c.row_start-start.ensures c.stick_byte-marks.ensures c.run_length.ensures in
    let run = lent-run (row-lent c.requires c.loop-at.auto.table) here in
    omega (arith, run.within)

pub loop-at-preserved : goal.loop-at-preserved
loop-at-preserved c =
    let here = piece c.edge_columns-columns.ensures c.row_start-start.ensures c.stick_byte-marks.ensures c.run_length.ensures in
    row-turn (row-lent c.requires c.loop-at.auto.table) here _ _ c.loop-at.invariant c.fill_run.auto.run c.fill_run.ensures
