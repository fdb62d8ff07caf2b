-- `entry_at` meets its contract.
use borrow.Author.Tests.{eq-eqb, ne_eqb}
use Rattle.grid.specs.Layer.{bit}
use Rattle.trace.proofs.fill.entry_at.Goals as goal

pub returns-then-marks-b-eq1 : goal.returns-then-marks-b-eq1
unfolding bit
returns-then-marks-b-eq1 c = rw (eq-eqb _ _ c.if-marks-b-eq1.true) c.from.ensures

pub returns-else-marks-b-eq1 : goal.returns-else-marks-b-eq1
unfolding bit
returns-else-marks-b-eq1 c = rw (ne_eqb _ _ c.if-marks-b-eq1.false) c.from-else-marks-b-eq1.ensures
