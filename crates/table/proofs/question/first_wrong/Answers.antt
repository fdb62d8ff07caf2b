-- `first_wrong` meets its contract. The invariant: no entry passed is wrong.
use mathlib.Core.Path.{sym, ◌∙◌}
use native.Mathlib.Omega.{arith}
use borrow.Author.Count.{below_more}
use Rattle.arith.proofs.Ranges.{found-is, found-none}
use Rattle.grid.specs.Layer.{bit}
use Rattle.table.proofs.question.first_wrong.Goals as goal

pub returns-then-is_wrong : goal.returns-then-is_wrong
unfolding bit
returns-then-is_wrong c =
    found-is _ _ _ c.loop-b-test.true (sym c.is_wrong.ensures ∙ c.if-is_wrong.true) c.loop-b.invariant

pub loop-b-preserved : goal.loop-b-preserved
unfolding bit
loop-b-preserved c = below_more _ _ c.loop-b.invariant (sym c.is_wrong.ensures ∙ c.if-is_wrong.false)

pub returns : goal.returns
returns c = found-none _ _ (λ k h. c.loop-b.invariant k (omega arith))
