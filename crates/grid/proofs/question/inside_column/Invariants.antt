use mathlib.Core.Path.{◌≡◌}
use mathlib.Core.Bool.{false}
use Prim.Native.Nat.{ℕ, ◌<◌}
use Rattle.grid.specs.Layer.{layer_of, sample_in}
use Rattle.grid.proofs.question.inside_column.Given as goal

abbrev pub invariant-loop-column : goal.invariant-loop-column
invariant-loop-column l = (k : ℕ) → k < l.column → sample_in (layer_of l.size l.bitmap) l.row k ≡ false
