-- `entry_count` meets its contract.
use native.Mathlib.Omega.{arith}
use Rattle.grid.specs.Layer.{size_of}
use Rattle.slicing.proofs.Bounds.{small_of, edges_few}
use Rattle.slicing.proofs.steps.entry_count.Goals as goal

pub returns : goal.returns
returns c =
    let size = size_of c.args.w c.args.h in
    (c.edge_count.ensures, omega (arith, c.edge_count.ensures, edges_few size (small_of size c.requires)))
