use Rattle.grid.specs.Layer.{layer_of}
use Rattle.grid.specs.Questions.{border_at}
use Rattle.grid.proofs.Asking.{RowsPassed}
use Rattle.grid.proofs.question.ask_border.Given as goal

abbrev pub invariant-loop-row : goal.invariant-loop-row
invariant-loop-row l = RowsPassed (layer_of l.size l.bitmap) border_at l.size.width l.row
