-- `edge_in` meets its contract.
use Rattle.grid.proofs.Numbers.{columns-pos}
use Rattle.grid.proofs.edge.edge_in.Goals as goal

pub nonzero_rem-result : goal.nonzero_rem-result
nonzero_rem-result c = rw c.edge_columns-columns.ensures (columns-pos c.args.size c.requires c.args.vertical)

pub nonzero_div-result : goal.nonzero_div-result
nonzero_div-result c = nonzero_rem-result c

pub returns : goal.returns
returns c = rw c.edge_columns-columns.ensures
