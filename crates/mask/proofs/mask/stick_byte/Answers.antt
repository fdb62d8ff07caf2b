-- `stick_byte` meets its contract.
use Prim.Native.Nat.{◌+◌, ◌<◌}
use native.Mathlib.Omega.{arith}
use Rattle.grid.specs.Plain.{plain}
use Rattle.mask.proofs.Masks.{marks-horizontal, marks-vertical}
use Rattle.grid.proofs.Numbers.{row-below-height}
use Rattle.mask.proofs.mask.stick_byte.Goals as goal
use Rattle.mask.proofs.mask.stick_byte.Goals.{Then-vertical}

next : (c : Then-vertical) → c.args.row + 1 < c.args.layer.size.height
next c = let h = rw c.if-vertical.true at c.requires.row_bound in omega arith

pub row_byte-here-requires : goal.row_byte-here-requires
row_byte-here-requires c =
    let a = c.args in
    let L = plain a.layer in
    let given = c.requires in
    record { at_bound = given.at_bound; row_lt_height = row-below-height a.layer.size c.args.layer.sound.whole.sized a.vertical a.row given.row_bound }

pub overflow_add-row : goal.overflow_add-row
overflow_add-row c = omega (arith, next c)

pub row_byte-requires : goal.row_byte-requires
row_byte-requires c = let given = c.requires in record { at_bound = given.at_bound; row_lt_height = next c }

pub returns-then-vertical : goal.returns-then-vertical
returns-then-vertical c =
    let next : c.args.row + 1 < c.args.layer.size.height =
    let h = rw c.if-vertical.true at c.requires.row_bound in omega arith in
    let a = c.args in
    let L = plain a.layer in
    let given = c.requires in
    rw (c.if-vertical.true, c.row_byte-here.ensures, c.row_byte.ensures)
    (marks-vertical L c.args.layer.sound a.at a.row given.at_bound next)

pub shifted_byte-requires : goal.shifted_byte-requires
shifted_byte-requires c =
    let a = c.args in
    let L = plain a.layer in
    let given = c.requires in
    record { at_bound = given.at_bound; row_lt_height = row-below-height a.layer.size c.args.layer.sound.whole.sized a.vertical a.row given.row_bound }

pub returns : goal.returns
returns c =
    let a = c.args in
    let L = plain a.layer in
    let given = c.requires in
    rw (c.if-vertical.false, c.row_byte-here.ensures)
    (marks-horizontal L c.args.layer.sound a.at a.row given.at_bound
    (row-below-height a.layer.size c.args.layer.sound.whole.sized a.vertical a.row given.row_bound) c.shifted_byte.result c.shifted_byte.ensures)
