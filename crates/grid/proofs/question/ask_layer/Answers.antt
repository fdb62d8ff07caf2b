-- `ask_layer` meets its contract: what a yes to a question says is what the next one requires.
use mathlib.Core.Path.{sym, ◌∙◌}
use Rattle.grid.proofs.Answers.{sized_of, whole_of}
use Rattle.grid.proofs.question.ask_layer.Goals as goal

pub ask_length-requires : goal.ask_length-requires
ask_length-requires c = sized_of _ (sym c.ask_sides.ensures ∙ c.in_ok-ask_sides.was)

pub ask_spare-requires : goal.ask_spare-requires
ask_spare-requires c =
    whole_of _ (sized_of _ (sym c.ask_sides.ensures ∙ c.in_ok-ask_sides.was)) (sym c.ask_length.ensures ∙ c.in_ok-ask_length.was)

pub ask_border-requires : goal.ask_border-requires
ask_border-requires c =
    whole_of _ (sized_of _ (sym c.ask_sides.ensures ∙ c.in_ok-ask_sides.was)) (sym c.ask_length.ensures ∙ c.in_ok-ask_length.was)
