-- `edge_rows` meets its contract.
use Rattle.grid.proofs.edge.edge_rows.Goals as goal

pub returns-then-vertical : goal.returns-then-vertical
returns-then-vertical c = rw c.if-vertical.true
