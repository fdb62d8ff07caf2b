-- `around_at` meets its contract. The invariant: the sweep stands at `at`, in the row that it began in.
use native.Mathlib.Omega.{arith}
use Rattle.nesting.proofs.Sweeping.{row_last}
use Rattle.nesting.proofs.sweep.around_at.Goals as goal

pub returns : goal.returns
returns c = let at = c.loop-at.invariant in rw at.in_row at (row_last at.swept (omega arith))
