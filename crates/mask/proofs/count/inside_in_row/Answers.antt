-- `inside_in_row` meets its contract. The invariant: the total is that of the bytes passed.
use Prim.Native.Nat.{◌<◌}
use native.Mathlib.Omega.{arith}
use Rattle.arith.proofs.Counting.{counted_none, counted-room}
use Rattle.grid.specs.Layer.{stride}
use Rattle.mask.proofs.Ones.{inside-byte, inside-row}
use Rattle.mask.proofs.count.inside_in_row.Goals as goal
use Rattle.mask.proofs.count.inside_in_row.Goals.{In-loop-at}

less : (c : In-loop-at) → c.loop-at.at < stride c.args.layer.size
less c = rw c.stride_of-bytes.ensures at c.loop-at-test.true

pub loop-at-init : goal.loop-at-init
loop-at-init c = counted_none

pub row_byte-requires : goal.row_byte-requires
row_byte-requires c = let given = c.requires in record { at_bound = less c; row_lt_height = given.row_lt_height }

pub overflow_add-total : goal.overflow_add-total
overflow_add-total c =
    let less : c.loop-at.at < stride c.args.layer.size =
    rw c.stride_of-bytes.ensures at c.loop-at-test.true in
    omega (arith, counted-room c.loop-at.invariant less _ c.ones_of-total.ensures.value, c.args.layer.sound.whole.sized)

pub loop-at-preserved : goal.loop-at-preserved
loop-at-preserved c =
    let less : c.loop-at.at < stride c.args.layer.size =
    rw c.stride_of-bytes.ensures at c.loop-at-test.true in
    inside-byte c.args.layer.sound c.args.row c.loop-at.invariant less c.row_byte.ensures
    c.ones_of-total.ensures.value

pub returns : goal.returns
returns c =
    let given = c.requires in
    let bytes = c.stride_of-bytes.ensures in
    inside-row c.args.layer.sound c.args.row given.row_lt_height c.loop-at.invariant (omega arith)
