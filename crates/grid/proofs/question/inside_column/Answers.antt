-- `inside_column` meets its contract. The invariant: no sample passed is inside.
use mathlib.Core.Path.{sym, ◌∙◌}
use native.Mathlib.Omega.{arith}
use Rattle.arith.proofs.Ranges.{found-is, found-none}
use Rattle.grid.proofs.question.inside_column.Goals as goal

pub returns-then-is_inside : goal.returns-then-is_inside
returns-then-is_inside c =
    found-is _ _ _ c.loop-column-test.true (sym c.is_inside.ensures ∙ c.if-is_inside.true) c.loop-column.invariant

pub returns : goal.returns
returns c = found-none _ _ (λ k h. c.loop-column.invariant k (omega arith))
