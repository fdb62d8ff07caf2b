-- `spare_in` meets its contract.
use Prim.Native.Nat.{◌-◌, ◌<◌}
use native.Mathlib.Omega.{arith}
use lib.Arith.{digits_mod}
use Rattle.grid.specs.Layer.{stride}
use Rattle.grid.proofs.Samples.{last_byte}
use Rattle.grid.proofs.question.spare_in.Goals as goal

pub returns : goal.returns
returns c =
    let size = c.args.size in
    let within : stride size - 1 < stride size = omega (arith, last_byte size c.requires.whole.sized) in
    rw (c.from.ensures, c.row_byte.ensures, c.stride_of-last.ensures, digits_mod c.args.row within)
