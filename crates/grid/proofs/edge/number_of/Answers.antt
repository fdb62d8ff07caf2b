-- `number_of` meets its contract: an edge's number is below the number of edges, which is small.
use native.Mathlib.Omega.{arith}
use mathlib.Core.Path.{◌≡◌}
use Prim.Native.Nat.{◌+◌, ◌*◌, ◌<◌}
use Rattle.grid.specs.Edges.{number}
use Rattle.grid.proofs.Numbers.{number-below, edges-small}
use Rattle.grid.proofs.edge.number_of.Goals as goal
use Rattle.grid.proofs.edge.number_of.Goals.{After-edge_columns}

is_number : (c : After-edge_columns)
    → c.kind_start.result
    + (c.args.e.row * c.edge_columns.result + c.args.e.column)
    ≡ number c.args.size c.args.e
unfolding number
is_number c = rw (c.kind_start.ensures, c.edge_columns.ensures)

small : (c : After-edge_columns) → number c.args.size c.args.e < 2095104
small c =
    let a = c.args in
    let given = c.requires in
    omega (arith, number-below a.size given.sized a.e given.within, edges-small a.size given.sized)

pub overflow_mul-result : goal.overflow_mul-result
overflow_mul-result c = omega (arith, is_number c.before, small c.before)

pub overflow_add-result : goal.overflow_add-result
overflow_add-result c = omega (arith, is_number c.before.before, small c.before.before)

pub overflow_add-result-2 : goal.overflow_add-result-2
overflow_add-result-2 c = omega (arith, is_number c.before.before, small c.before.before)

pub returns : goal.returns
returns c = is_number c.before.before
