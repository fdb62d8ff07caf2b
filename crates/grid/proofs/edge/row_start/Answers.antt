-- `row_start` meets its contract: the row's numbers are below the number of edges, which is small.
use Prim.Native.Nat.{◌+◌, ◌*◌, ◌≤◌}
use native.Mathlib.Omega.{arith}
use Rattle.grid.proofs.Numbers.{row_fits, edges-small}
use Rattle.grid.proofs.edge.row_start.Goals as goal
use Rattle.grid.proofs.edge.row_start.Goals.{After-edge_columns}

small : (c : After-edge_columns)
    → c.kind_start.result + c.args.row * c.edge_columns.result ≤ 2095104
small c =
    let a = c.args in
    let given = c.requires in
    rw (c.kind_start.ensures, c.edge_columns.ensures)
    (omega (arith, row_fits a.size given.sized a.vertical a.row given.row_bound, edges-small a.size given.sized))

pub overflow_mul-result : goal.overflow_mul-result
overflow_mul-result c = omega (arith, small c)

pub overflow_add-result : goal.overflow_add-result
overflow_add-result c = omega (arith, small c)

pub returns : goal.returns
returns c = rw (c.kind_start.ensures, c.edge_columns.ensures)
