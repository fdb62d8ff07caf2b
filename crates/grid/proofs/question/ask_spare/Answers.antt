-- `ask_spare` meets its contract. The invariant: no byte of a row passed has a spare bit set.
use mathlib.Core.Path.{sym, ◌∙◌}
use native.Mathlib.Omega.{arith}
use Rattle.grid.proofs.Asking.{rows_start, spare-turn, spare-here, spare-none}
use Rattle.grid.proofs.question.ask_spare.Goals as goal

pub loop-row-init : goal.loop-row-init
loop-row-init c = rows_start

pub returns-then-spare_in : goal.returns-then-spare_in
returns-then-spare_in c =
    rw (c.at.ensures, c.row_end.ensures)
    (spare-here c.requires c.loop-row.invariant (λ i. (c.type_inv.bitmap i).fits) c.loop-row-test.true
    (sym c.spare_in.ensures ∙ c.if-spare_in.true))

pub loop-row-preserved : goal.loop-row-preserved
loop-row-preserved c =
    spare-turn c.requires c.loop-row.invariant (λ i. (c.type_inv.bitmap i).fits)
    (sym c.spare_in.ensures ∙ c.if-spare_in.false)

pub returns : goal.returns
returns c = spare-none c.requires c.loop-row.invariant (omega arith)
