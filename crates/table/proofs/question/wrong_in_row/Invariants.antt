use Rattle.grid.specs.Plain.{plain}
use Rattle.table.proofs.Runs.{RowPassed}
use Rattle.table.proofs.question.wrong_in_row.Given as goal

abbrev pub invariant-loop-at : goal.invariant-loop-at
invariant-loop-at l = RowPassed (plain l.layer) l.table l.vertical l.row l.at
