-- `shifted_byte` meets its contract.
use Rattle.mask.proofs.Masks.{follows-joined, follows-ended}
use Rattle.mask.proofs.mask.shifted_byte.Goals as goal

pub returns-then-at-stride_of : goal.returns-then-at-stride_of
returns-then-at-stride_of c =
    let byte = rw c.row_byte-here.ensures at c.row_byte-here.type_inv in
    rw (c.row_byte-here.ensures, c.row_byte.ensures)
    (follows-joined _ c.args.layer.sound.whole _ _ byte c.requires.at_bound (rw c.stride_of.ensures at c.if-at-stride_of.true))

pub returns : goal.returns
returns c =
    let byte = rw c.row_byte-here.ensures at c.row_byte-here.type_inv in
    rw c.row_byte-here.ensures
    (follows-ended _ c.args.layer.sound.whole _ _ byte c.requires.at_bound (rw c.stride_of.ensures at c.if-at-stride_of.false))
