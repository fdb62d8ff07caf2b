use Rattle.std.proofs.Common.{◌≡◌, ℕ, ◌<◌, get_or}
use Rattle.grid.specs.Layer.{bit}
use Rattle.trace.specs.Trace.{traced}
use Rattle.trace.proofs.fill.fill_run.Given as goal

abbrev pub invariant-loop-b : goal.invariant-loop-b
invariant-loop-b l = (k : ℕ) → k < l.b → get_or l.run k 0 ≡ traced (bit l.marks k)
