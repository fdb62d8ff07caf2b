-- `kind_start` meets its contract.
use native.Mathlib.Omega.{arith}
use mathlib.Core.Bool.{true}
use Rattle.grid.proofs.Numbers.{kind-below, edges-small}
use Rattle.grid.proofs.edge.kind_start.Goals as goal

pub overflow_mul-result : goal.overflow_mul-result
overflow_mul-result c =
    let size = c.args.size in
    let sized = c.requires in
    omega (arith, kind-below size sized true, edges-small size sized)

pub returns-then-vertical : goal.returns-then-vertical
returns-then-vertical c = rw c.if-vertical.true
