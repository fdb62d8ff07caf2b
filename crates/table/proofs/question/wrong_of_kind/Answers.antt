-- `wrong_of_kind` meets its contract. The invariant: no entry of the rows passed is wrong. `here` is the row of a turn; what the row's
-- search gives is in proofs/Runs.
use native.Mathlib.Omega.{arith}
use Rattle.arith.proofs.Ranges.{found}
use Rattle.table.proofs.Pieces.{lent_row, row-places}
use Rattle.table.proofs.Runs.{kind-found, kind-turn, kind-end}
use Rattle.table.proofs.question.wrong_of_kind.Goals as goal

pub overflow_add-result : goal.overflow_add-result
overflow_add-result c =
    let here = lent_row c.requires c.edge_rows-row-end.ensures c.loop-row-test.true in
    let column = found _ _ c.wrong_in_row.ensures c.in-Some.is in
    omega (arith, row-places here c.edge_columns-columns.ensures, column.within, c.edge_columns-columns.ensures)

pub returns-in-Some : goal.returns-in-Some
returns-in-Some c =
    let here = lent_row c.requires c.edge_rows-row-end.ensures c.loop-row-test.true in
    rw c.edge_columns-columns.ensures (kind-found c.loop-row.invariant here c.wrong_in_row.ensures c.in-Some.is)

pub loop-row-preserved : goal.loop-row-preserved
loop-row-preserved c =
    let here = lent_row c.requires c.edge_rows-row-end.ensures c.loop-row-test.true in
    kind-turn c.loop-row.invariant here c.wrong_in_row.ensures c.in_default.is

pub returns : goal.returns
returns c = kind-end c.loop-row.invariant (omega (arith, c.edge_rows-row-end.ensures))
