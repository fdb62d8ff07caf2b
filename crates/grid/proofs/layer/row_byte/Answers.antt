-- `row_byte` meets its contract: the byte's place is below the bitmap's length.
use Prim.Native.Nat.{◌+◌, ◌*◌, ◌<◌}
use native.Mathlib.Omega.{arith}
use lib.ListN.{length}
use Rattle.grid.specs.Layer.{layer_of}
use Rattle.grid.proofs.Samples.{byte-below}
use Rattle.grid.proofs.layer.row_byte.Goals as goal
use Rattle.grid.proofs.layer.row_byte.Goals.{After-stride_of}

below : (c : After-stride_of)
    → c.args.row * c.stride_of.result + c.args.at < length c.args.bitmap.now
below c =
    let a = c.args in
    let given = c.requires in
    rw c.stride_of.ensures
    (byte-below (layer_of a.size a.bitmap.now) given.whole a.at a.row given.at_bound given.row_lt_height)

pub overflow_mul-i : goal.overflow_mul-i
overflow_mul-i c = omega (arith, below c)

pub overflow_add-i : goal.overflow_add-i
overflow_add-i c = omega (arith, below c)

pub bounds-bitmap-i : goal.bounds-bitmap-i
bounds-bitmap-i c =
    let below : c.args.row * c.stride_of.result + c.args.at < length c.args.bitmap.now =
    let a = c.args in
    let given = c.requires in
    rw c.stride_of.ensures
    (byte-below (layer_of a.size a.bitmap.now) given.whole a.at a.row given.at_bound given.row_lt_height) in
    below

pub returns : goal.returns
returns c = rw c.stride_of.ensures
