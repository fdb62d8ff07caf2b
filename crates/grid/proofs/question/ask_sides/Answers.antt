-- `ask_sides` meets its contract.
use mathlib.Core.Path.{sym, ◌∙◌}
use Rattle.grid.specs.Questions.{sides_answer}
use Rattle.grid.proofs.question.ask_sides.Goals as goal
use Rattle.grid.proofs.question.ask_sides.Goals.{else-in_range-via-then-in_range+else-in_range-2, else-in_range-via-else-in_range}

pub returns-then-in_range-2 : goal.returns-then-in_range-2
unfolding sides_answer
returns-then-in_range-2 c =
    rw (sym c.in_range.ensures ∙ c.if-in_range.true, sym c.in_range-then-in_range.ensures ∙ c.if-in_range-2.true)

pub returns-else-in_range : goal.returns-else-in_range
unfolding sides_answer
returns-else-in_range c = elim c.else-in_range.branch [
  | else-in_range-via-then-in_range+else-in_range-2 w ↦
      rw (c.at.ensures, sym c.in_range.ensures ∙ w.if-in_range.true, sym w.in_range-then-in_range.ensures ∙ w.if-in_range-2.false)
  | else-in_range-via-else-in_range w ↦ rw (c.at.ensures, sym c.in_range.ensures ∙ w.if-in_range.false)
]
