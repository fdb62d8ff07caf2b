-- `mark_bore` meets its contract: by whether the west end of the first stick is inside.
use Rattle.step.proofs.Walks.{stick-sample}
use Rattle.nesting.proofs.bore.mark_bore.Goals as goal

pub is_inside-requires-clause-column_lt_width : goal.is_inside-requires-clause-column_lt_width
is_inside-requires-clause-column_lt_width c =
    let given = c.requires in
    let e = c.args.first in
    (stick-sample _ given.sound e.vertical e.column e.row given.stick).0

pub is_inside-requires-clause-row_lt_height : goal.is_inside-requires-clause-row_lt_height
is_inside-requires-clause-row_lt_height c =
    let given = c.requires in
    let e = c.args.first in
    (stick-sample _ given.sound e.vertical e.column e.row given.stick).1
