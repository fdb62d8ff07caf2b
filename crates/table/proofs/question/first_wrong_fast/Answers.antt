-- `first_wrong_fast` meets its contract.
use Rattle.table.proofs.Runs.{zeros-right}
use Rattle.table.proofs.question.first_wrong_fast.Goals as goal

pub returns-then-all_empty : goal.returns-then-all_empty
returns-then-all_empty c = zeros-right c.args.run.now c.if-marks-eq0.true (c.all_empty.ensures c.if-all_empty.true)
