-- `has_pin` meets its contract.
use mathlib.Core.Path.{sym}
use Rattle.table.proofs.Entries.{pin-above}
use Rattle.table.proofs.entry.has_pin.Goals as goal

pub returns : goal.returns
returns c = sym (pin-above c.args.n c.requires)
