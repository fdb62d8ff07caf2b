-- `edge_columns` meets its contract.
use Rattle.grid.proofs.edge.edge_columns.Goals as goal

pub returns-else-vertical : goal.returns-else-vertical
returns-else-vertical c = rw c.if-vertical.false
