-- `inside_count` meets its contract. The invariant: the total is that of the rows passed.
use native.Mathlib.Omega.{arith}
use Rattle.arith.proofs.Counting.{counted_none, counted-room, counted-all}
use Rattle.grid.proofs.Numbers.{samples-small}
use Rattle.mask.proofs.Ones.{inside-rows}
use Rattle.mask.proofs.count.inside_count.Goals as goal

pub loop-row-init : goal.loop-row-init
loop-row-init c = counted_none

pub overflow_add-total : goal.overflow_add-total
overflow_add-total c =
    let room = counted-room c.loop-row.invariant c.loop-row-test.true _ c.inside_in_row-total.ensures in
    omega (arith, room, samples-small _ c.args.layer.sound.whole.sized)

pub loop-row-preserved : goal.loop-row-preserved
loop-row-preserved c =
    inside-rows c.args.layer.sound c.loop-row.invariant c.loop-row-test.true c.inside_in_row-total.ensures

pub returns : goal.returns
returns c = counted-all c.loop-row.invariant (omega arith)
