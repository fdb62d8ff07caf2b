-- `ask_all_kept` meets its contract. The invariant: no entry passed is removed.
use mathlib.Core.Path.{ap, sym, ◌∙◌}
use native.Mathlib.Omega.{arith}
use Rattle.grid.specs.declared.refusal.Refusal.TheVariants.{SomeRemoved}
use Rattle.table.specs.Vertices.{is_removed}
use Rattle.table.specs.Kept.{all_kept_answer}
use Rattle.table.proofs.Searching.{none-no, none-yes}
use Rattle.table.proofs.question.ask_all_kept.Goals as goal

pub returns-then-is_removed : goal.returns-then-is_removed
unfolding all_kept_answer
returns-then-is_removed c =
    let removed = sym (c.is_removed.ensures ∙ ap is_removed c.from.ensures) ∙ c.if-is_removed.true in
    rw (c.at.ensures, ← c.edge_count-k-end.ensures) (none-no c.loop-k.invariant SomeRemoved c.loop-k-test.true removed)

pub returns : goal.returns
unfolding all_kept_answer
returns c = rw (← c.edge_count-k-end.ensures) (none-yes c.loop-k.invariant SomeRemoved (omega arith))
