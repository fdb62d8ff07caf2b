-- `all_empty` meets its contract. The invariant: if `any` is 0, the entries passed are 0.
use borrow.Author.Count.{below_more}
use lib.ListN.{get_or}
use Rattle.table.proofs.Runs.{neither}
use Rattle.table.proofs.question.all_empty.Goals as goal

pub loop-n-preserved : goal.loop-n-preserved
loop-n-preserved c = λ e.
    let both = neither c.loop-n.any (get_or c.args.run.now c.loop-n.n-index 0) e in
    below_more _ _ (c.loop-n.invariant both.0) both.1
