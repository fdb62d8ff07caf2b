use Rattle.grid.specs.Layer.{layer_of, stride}
use Rattle.grid.specs.Questions.{spare_set}
use Rattle.grid.proofs.Asking.{RowsPassed}
use Rattle.grid.proofs.question.ask_spare.Given as goal

abbrev pub invariant-loop-row : goal.invariant-loop-row
invariant-loop-row l = RowsPassed (layer_of l.size l.bitmap) spare_set (stride l.size) l.row
