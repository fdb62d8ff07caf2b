-- `offset_of` meets its contract.
use Rattle.table.proofs.Entries.{low_byte}
use Rattle.table.proofs.entry.offset_of.Goals as goal

pub returns : goal.returns
returns c = low_byte c.args.n c.requires
