-- `ask_border` meets its contract. The invariant: no border sample of a row passed is inside.
use native.Mathlib.Omega.{arith}
use lib.Arith.{digits_lt}
use Rattle.arith.proofs.Ranges.{found}
use Rattle.grid.proofs.Numbers.{samples-small}
use Rattle.grid.proofs.Asking.{rows_start, border-turn, border-here, border-none}
use Rattle.grid.proofs.question.ask_border.Goals as goal

pub loop-row-init : goal.loop-row-init
loop-row-init c = rows_start

pub overflow_add-row : goal.overflow_add-row
overflow_add-row c =
    let here = found _ _ c.border_column.ensures c.in-Some.is in
    omega (arith, samples-small _ c.requires.sized, digits_lt c.loop-row-test.true here.within)

pub returns-in-Some : goal.returns-in-Some
returns-in-Some c =
    rw c.at.ensures (border-here c.loop-row.invariant c.border_column.ensures c.loop-row-test.true c.in-Some.is)

pub loop-row-preserved : goal.loop-row-preserved
loop-row-preserved c = border-turn c.loop-row.invariant c.border_column.ensures c.in_default.is

pub returns : goal.returns
returns c = border-none c.loop-row.invariant (omega arith)
