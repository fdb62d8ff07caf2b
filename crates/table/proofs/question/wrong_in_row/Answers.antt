-- `wrong_in_row` meets its contract. The invariant: no entry of the pieces passed is wrong. `here` is the piece of a turn; what follows from
-- it is in proofs/Pieces, and what its search gives in proofs/Runs.
use native.Mathlib.Omega.{arith}
use Rattle.std.proofs.lemmas.Grind.{div_ceil_times}
use Rattle.table.proofs.Pieces.{piece, lent-run}
use Rattle.table.proofs.Runs.{row-found, row-within, row-turn, row-end}
use Rattle.table.proofs.question.wrong_in_row.Goals as goal

pub slice_bounds-first_wrong_fast-end : goal.slice_bounds-first_wrong_fast-end
slice_bounds-first_wrong_fast-end c =
    let here = piece c.edge_columns-columns.ensures c.row_start-start.ensures c.stick_byte-marks.ensures c.run_length-count.ensures in
    (lent-run c.requires here).within

pub overflow_add-result : goal.overflow_add-result
overflow_add-result c =
    let here = piece c.edge_columns-columns.ensures c.row_start-start.ensures c.stick_byte-marks.ensures c.run_length-count.ensures in
    let within = row-within c.loop-at.invariant c.requires here c.first_wrong_fast.ensures c.in-Some.is in
    omega (arith, within, here.small, c.loop-at.invariant.few)

pub returns-in-Some : goal.returns-in-Some
returns-in-Some c =
    let here = piece c.edge_columns-columns.ensures c.row_start-start.ensures c.stick_byte-marks.ensures c.run_length-count.ensures in
    row-found c.loop-at.invariant c.requires here c.first_wrong_fast.ensures c.in-Some.is

pub loop-at-preserved : goal.loop-at-preserved
loop-at-preserved c =
    let here = piece c.edge_columns-columns.ensures c.row_start-start.ensures c.stick_byte-marks.ensures c.run_length-count.ensures in
    row-turn c.loop-at.invariant c.requires here c.first_wrong_fast.ensures c.in_default.is

pub returns : goal.returns
returns c =
    row-end c.loop-at.invariant (omega (arith, div_ceil_times c.edge_columns-columns.result 8, c.div_ceil-at-end.ensures, c.edge_columns-columns.ensures))
