-- `leave` meets its contract.
use mathlib.Core.Path.{ap, ◌∙◌}
use Rattle.step.specs.Cells.{edge_on}
use Rattle.step.proofs.turn.leave.Goals as goal

pub returns : goal.returns
returns c = let a = c.args in c.edge_of.ensures ∙ ap (edge_on a.column a.row) c.linked_in.ensures
