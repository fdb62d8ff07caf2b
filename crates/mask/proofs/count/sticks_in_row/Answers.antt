-- `sticks_in_row` meets its contract. The invariant: the total is that of the bytes passed.
use Prim.Native.Nat.{◌<◌}
use native.Mathlib.Omega.{arith}
use Rattle.arith.proofs.Counting.{counted_none, counted-room}
use Rattle.grid.specs.Layer.{stride}
use Rattle.mask.proofs.Ones.{sticks-byte, sticks-row}
use Rattle.mask.proofs.count.sticks_in_row.Goals as goal
use Rattle.mask.proofs.count.sticks_in_row.Goals.{In-loop-at}

less : (c : In-loop-at) → c.loop-at.at < stride c.args.layer.size
less c = rw c.stride_of-bytes.ensures at c.loop-at-test.true

pub loop-at-init : goal.loop-at-init
loop-at-init c = counted_none

pub stick_byte-requires : goal.stick_byte-requires
stick_byte-requires c = let given = c.requires in record { at_bound = less c; row_bound = given.row_bound }

pub overflow_add-total : goal.overflow_add-total
overflow_add-total c =
    let less : c.loop-at.at < stride c.args.layer.size =
    rw c.stride_of-bytes.ensures at c.loop-at-test.true in
    omega (arith, counted-room c.loop-at.invariant less _ c.ones_of-total.ensures.value, c.args.layer.sound.whole.sized)

pub loop-at-preserved : goal.loop-at-preserved
loop-at-preserved c =
    let less : c.loop-at.at < stride c.args.layer.size =
    rw c.stride_of-bytes.ensures at c.loop-at-test.true in
    let a = c.args in
    sticks-byte c.args.layer.sound a.vertical a.row c.loop-at.invariant less c.stick_byte.ensures
    c.ones_of-total.ensures.value

pub returns : goal.returns
returns c =
    let a = c.args in
    let bytes = c.stride_of-bytes.ensures in
    sticks-row c.args.layer.sound a.vertical a.row c.loop-at.invariant (omega arith)
