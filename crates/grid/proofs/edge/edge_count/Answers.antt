-- `edge_count` meets its contract: the number of edges is small.
use borrow.Author.Rules.{rules}
use native.Mathlib.Omega.{arith}
use Rattle.grid.specs.Edges.{edge_count}
use Rattle.grid.proofs.Numbers.{edges-small}
use Rattle.grid.proofs.edge.edge_count.Goals as goal

pub overflow_mul-result : goal.overflow_mul-result
unfolding edge_count
overflow_mul-result c = omega (arith, edges-small c.args.size c.requires)

pub overflow_mul-result-2 : goal.overflow_mul-result-2
unfolding edge_count
overflow_mul-result-2 c =
    omega (arith, edges-small c.args.size c.requires)

pub overflow_add-result : goal.overflow_add-result
unfolding edge_count
overflow_add-result c =
    omega (arith, edges-small c.args.size c.requires)

pub returns : goal.returns
unfolding edge_count
returns c = search rules
