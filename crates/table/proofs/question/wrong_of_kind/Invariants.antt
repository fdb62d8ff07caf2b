use Rattle.grid.specs.Plain.{plain}
use Rattle.table.proofs.Runs.{KindPassed}
use Rattle.table.proofs.question.wrong_of_kind.Given as goal

abbrev pub invariant-loop-row : goal.invariant-loop-row
invariant-loop-row l = KindPassed (plain l.layer) l.table l.vertical l.row
