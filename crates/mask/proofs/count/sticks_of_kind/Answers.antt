-- `sticks_of_kind` meets its contract. The invariant: the total is that of the rows passed.
use Prim.Native.Nat.{◌<◌}
use native.Mathlib.Omega.{arith}
use Rattle.arith.proofs.Counting.{counted_none, counted-room, counted-all}
use Rattle.grid.specs.Edges.{edge_rows}
use Rattle.grid.proofs.Numbers.{kind-below, edges-small}
use Rattle.mask.proofs.Ones.{sticks-rows}
use Rattle.mask.proofs.count.sticks_of_kind.Goals as goal
use Rattle.mask.proofs.count.sticks_of_kind.Goals.{In-loop-row}

less : (c : In-loop-row)
    → let a = c.args in c.loop-row.row < edge_rows a.layer.size a.vertical
less c = rw c.edge_rows-rows.ensures at c.loop-row-test.true

pub loop-row-init : goal.loop-row-init
loop-row-init c = counted_none

pub sticks_in_row-total-requires : goal.sticks_in_row-total-requires
sticks_in_row-total-requires c = record { row_bound = less c }

pub overflow_add-total : goal.overflow_add-total
overflow_add-total c =
    let less : (let a = c.args in c.loop-row.row < edge_rows a.layer.size a.vertical) =
    rw c.edge_rows-rows.ensures at c.loop-row-test.true in
    let room = counted-room c.loop-row.invariant less _ c.sticks_in_row-total.ensures in
    let sized = c.args.layer.sound.whole.sized in
    omega (arith, room, kind-below _ sized c.args.vertical, edges-small _ sized)

pub loop-row-preserved : goal.loop-row-preserved
loop-row-preserved c =
    let less : (let a = c.args in c.loop-row.row < edge_rows a.layer.size a.vertical) =
    rw c.edge_rows-rows.ensures at c.loop-row-test.true in
    sticks-rows c.args.layer.sound c.args.vertical c.loop-row.invariant less c.sticks_in_row-total.ensures

pub returns : goal.returns
returns c = let rows = c.edge_rows-rows.ensures in counted-all c.loop-row.invariant (omega arith)
