-- `call_read` meets its contract: the elements of a slice of bytes are below 256.
use Rattle.reading.proofs.Theorems.{read-leaves}
use Rattle.guarantee.proofs.calls.call_read.Goals as goal

pub returns : goal.returns
returns c =
    (λ k. (c.type_inv.sheet k).fits, read-leaves _ _ _ c.read_sheet.result c.read_sheet.ensures)
