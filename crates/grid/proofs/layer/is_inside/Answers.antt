-- `is_inside` meets its contract.
use Rattle.grid.specs.Layer.{sample, bit}
use Rattle.grid.proofs.layer.is_inside.Goals as goal

pub returns : goal.returns
unfolding sample bit
returns c = rw c.row_byte-byte.ensures
