-- `fill_kind` meets its contract. The invariant: the entries of the rows passed are written.
use native.Mathlib.Nat.{zero-mul}
use Rattle.arith.proofs.Ranges.{fill_none}
use Rattle.trace.proofs.Entries.{kind-turn}
use Rattle.trace.proofs.fill.fill_kind.Goals as goal

pub loop-row-init : goal.loop-row-init
loop-row-init c = rw zero-mul (fill_none _ _ _)

pub loop-row-preserved : goal.loop-row-preserved
loop-row-preserved c = kind-turn _ _ _ _ c.loop-row.invariant c.fill_row.ensures
