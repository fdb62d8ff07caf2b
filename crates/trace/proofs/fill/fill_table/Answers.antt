-- `fill_table` meets its contract.
use Rattle.trace.proofs.Entries.{both-kinds}
use Rattle.trace.proofs.fill.fill_table.Goals as goal

pub returns : goal.returns
returns c =
    both-kinds c.requires c.fill_kind.ensures c.fill_kind-2.ensures
