-- `edge_at` meets its contract.
use borrow.Author.Tests.{lt-ltb, le-ltb}
use Rattle.grid.specs.Edges.{edge_at}
use Rattle.grid.proofs.edge.edge_at.Goals as goal

pub returns-then-n-horizontal : goal.returns-then-n-horizontal
unfolding edge_at
returns-then-n-horizontal c = rw (lt-ltb _ _ (rw c.kind_start-horizontal.ensures at c.if-n-horizontal.true)) c.edge_in.ensures

pub returns-else-n-horizontal : goal.returns-else-n-horizontal
unfolding edge_at
returns-else-n-horizontal c =
    rw (le-ltb _ _ (rw c.kind_start-horizontal.ensures at c.if-n-horizontal.false))
    (rw c.kind_start-horizontal.ensures at c.edge_in-else-n-horizontal.ensures)
