-- `is_upward` meets its contract.
use mathlib.Core.Path.{ap}
use mathlib.Core.Bool.{not}
use Rattle.grid.specs.Plain.{plain}
use Rattle.step.proofs.Walks.{stick-sample}
use Rattle.step.proofs.walk.is_upward.Goals as goal

pub is_inside-inside-requires : goal.is_inside-inside-requires
is_inside-inside-requires c =
    let a = c.args in
    let given = c.requires in
    let inside = stick-sample (plain a.layer) c.args.layer.sound a.e.vertical a.e.column a.e.row given.stick in
    record { column_lt_width = inside.0; row_lt_height = inside.1 }

pub returns-then-e : goal.returns-then-e
returns-then-e c = rw c.if-e.true (ap not c.is_inside-inside.ensures)

pub returns-else-e : goal.returns-else-e
returns-else-e c = rw c.if-e.false c.is_inside-inside.ensures
