-- `open_by_sheet` meets its contract: the elements of a slice of bytes are below 256.
use Rattle.reading.proofs.Theorems.{read-leaves}
use Rattle.guarantee.proofs.Promises.{read-accepts}
use Rattle.guarantee.proofs.openings.open_by_sheet.Goals as goal

pub returns : goal.returns
returns c =
    record { table_after = (λ k. (c.type_inv.sheet k).fits, read-leaves _ _ _ c.read_sheet.result c.read_sheet.ensures); opening_accepted = λ done. (λ k. (c.type_inv.sheet k).fits, read-accepts _ _ _ _ c.read_sheet.ensures done) }
