use Rattle.table.specs.Kept.{is_removed_at}
use Rattle.table.proofs.Searching.{NoneBelow}
use Rattle.table.proofs.question.ask_all_kept.Given as goal

abbrev pub invariant-loop-k : goal.invariant-loop-k
invariant-loop-k l = NoneBelow (is_removed_at l.table) l.k
