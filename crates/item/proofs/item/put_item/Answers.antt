-- `put_item` meets its contract: where the item has a point there is room for its two floats.
use native.Mathlib.Omega.{arith}
use lib.ListN.{length-set}
use Rattle.item.proofs.Writing.{room-point}
use Rattle.item.proofs.item.put_item.Goals as goal

pub bounds-points-at : goal.bounds-points-at
bounds-points-at c = omega (arith, room-point c.requires c.in-Move.is)

pub bounds-points-at-in-Move : goal.bounds-points-at-in-Move
bounds-points-at-in-Move c =
    omega (arith, room-point c.requires c.in-Move.is, length-set c.args.points.now c.args.at.now.floats c.in-Move.x)
